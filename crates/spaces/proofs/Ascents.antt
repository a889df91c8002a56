use Rattle.std.proofs.Common.{◌≡◌, ℕ, suc, ◌+◌, ◌≤◌, max, List, [], ◌∷◌, ◌++◌, length, refl, arith}
use Rattle.std.proofs.lemmas.Bool.Decides.{nat_tests}
use Rattle.spaces.specs.Patches.{Patches, Ascending, before, from, laid, replaced}

-- what an edit leaves ascends

pub ascending_less : (m n : ℕ) (ps : Patches) → m ≤ n → Ascending n ps → Ascending m ps
ascending_less m n [] h s = refl
ascending_less m n (p ∷ ps) h s = grind (arith, nat_tests)

ascending_before : (n a : ℕ) (ps rest : Patches) → n ≤ a → Ascending n ps → Ascending a rest → Ascending n (before a ps ++ rest)
ascending_before n a [] rest h s t = ascending_less n a rest h t
ascending_before n a (p ∷ ps) rest h s t = grind (arith, nat_tests, ascending_before (suc p.address) a ps rest, ascending_before n a ps rest, ascending_less n (suc p.address) ps)

pub ascending_from : (m n a : ℕ) (ps : Patches) → m ≤ max n a → Ascending n ps → Ascending m (from a ps)
ascending_from m n a [] h s = refl
ascending_from m n a (p ∷ ps) h s = grind (arith, nat_tests, ascending_from (suc p.address) (suc p.address) a ps, ascending_from m (suc p.address) a ps)

ascending_laid : (a end : ℕ) (bytes : List ℕ) (rest : Patches) → a + length bytes ≤ end → Ascending end rest → Ascending a (laid a bytes ++ rest)
ascending_laid a end [] rest h s = ascending_less a end rest (omega arith) s
ascending_laid a end (b ∷ bs) rest h s = grind (arith, nat_tests, ascending_laid (suc a) end bs rest)

pub ascending_replaced : (first end : ℕ) (bytes : List ℕ) (ps : Patches) → first + length bytes ≤ end → Ascending 0 ps → Ascending 0 (replaced first end bytes ps)
ascending_replaced first end bytes ps h s = ascending_before 0 first ps _ (omega arith) s (ascending_laid first end bytes (from end ps) h (ascending_from end 0 end ps (omega arith) s))

-- an empty edit changes nothing

none_before : (n a : ℕ) (ps : Patches) → a ≤ n → Ascending n ps → (before a ps ≡ []) × (from a ps ≡ ps)
none_before n a [] h s = (refl, refl)
none_before n a (p ∷ ps) h s = grind (arith, nat_tests, none_before (suc p.address) a ps)

pub replaced_none : (n a : ℕ) (ps : Patches) → Ascending n ps → replaced a a [] ps ≡ ps
replaced_none n a [] s = refl
replaced_none n a (p ∷ ps) s = grind (arith, nat_tests, replaced_none (suc p.address) a ps, none_before (suc p.address) a ps)
