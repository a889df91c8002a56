use Rattle.std.proofs.Common.{◌≡◌, ℕ, zero, suc, ◌<◌, ◌≤◌, true, false, ltb, [], ◌∷◌, length, take, drop, Some, None, Option, eqb, slice_get, refl, arith}
use Rattle.std.specs.Bool.{then_some}
use Rattle.std.specs.List.Sorted.{IsPartitionPoint, IsNonDecreasingBy}
use Rattle.std.proofs.lemmas.Bool.Decides.{nat_tests}
use Rattle.std.proofs.lemmas.List.Sorted.{IsNonDecreasingBy-from_default}
use Rattle.spaces.specs.declared.patch.Patch.{Patch}
use Rattle.spaces.specs.Patches.{Patches, Ascending, lookup, before, from}
use Rattle.spaces.proofs.Places.{blank, rises}

-- the addresses of ascending patches rise
pub rising : (ps : Patches) → Ascending 0 ps → IsNonDecreasingBy (λ (p : Patch). p.address) ps
rising ps s = IsNonDecreasingBy-from_default (λ (p : Patch). p.address) ps blank (λ i j h k. rises ps i j s h k)

-- patches are parted where those before an address end
pub parts : (a : ℕ) (ps : Patches) (i : ℕ) → i ≤ length ps → IsPartitionPoint (λ (p : Patch). ltb p.address a ≡ true) (λ (p : Patch). ltb p.address a ≡ false) ps i
    → (take i ps ≡ before a ps) × (drop i ps ≡ from a ps)
parts a [] zero h s = (refl, refl)
parts a [] (suc i) h s = absurd (omega arith)
parts a (p ∷ ps) zero h s =
    let t = parts a ps zero (omega arith) ((λ k d m n. absurd (omega arith)), λ k d m n. s.1 (suc k) d (omega arith) (omega arith)) in
    let e : ltb p.address a ≡ false = s.1 0 p (omega arith) (omega arith) in
    grind (arith, nat_tests)
parts a (p ∷ ps) (suc i) h s =
    let t = parts a ps i (omega arith) ((λ k d m n. s.0 (suc k) d (omega arith) (omega arith)), λ k d m n. s.1 (suc k) d (omega arith) (omega arith)) in
    let e : ltb p.address a ≡ true = s.0 0 p (omega arith) (omega arith) in
    grind (arith, nat_tests)

-- the byte of a patch that may be that of an address
abbrev pub byte_at : ℕ → Option Patch → Option ℕ
byte_at a None = None
byte_at a (Some p) = then_some (eqb p.address a) p.byte

pub none_above : (n a : ℕ) (ps : Patches) → a < n → Ascending n ps → lookup ps a ≡ None
none_above n a [] h s = refl
none_above n a (p ∷ ps) h s = let ih = none_above (suc p.address) a ps in grind (arith, nat_tests)

-- the patch of an address is the first from there on
pub first_from : (n a : ℕ) (ps : Patches) → Ascending n ps → lookup ps a ≡ byte_at a (slice_get (from a ps) 0)
first_from n a [] s = refl
first_from n a (p ∷ ps) s =
    let ih = first_from (suc p.address) a ps in
    let none = none_above (suc p.address) a ps in
    grind (arith, nat_tests)
