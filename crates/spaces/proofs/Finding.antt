use Rattle.std.proofs.Common.{◌≡◌, ℕ, zero, suc, ◌+◌, ◌<◌, ◌≤◌, Bool, cond, ltb, leb, ◌⊎◌, List, [], ◌∷◌, ◌++◌, length, get_or, Some, None, filter, Option, refl, arith}
use Rattle.std.proofs.lemmas.Bool.Decides.{nat_tests}
use Rattle.spaces.specs.Patches.{Patches, lookup, laid}
use Rattle.spaces.specs.Edits.{Edit, first_of, count_of, bytes_of, edit}
use Rattle.spaces.specs.EditLaws.{Changes}

-- the first of two that is there
abbrev or_else : Option ℕ → Option ℕ → Option ℕ
or_else None o = o
or_else (Some b) o = Some b

lookup_append : (ps qs : Patches) (a : ℕ) → lookup (ps ++ qs) a ≡ or_else (lookup ps a) (lookup qs a)
lookup_append [] qs a = refl
lookup_append (p ∷ ps) qs a = grind (arith, lookup_append ps qs a)

-- a filter by address keeps what is found at the addresses that pass
pub lookup_kept : (t : ℕ → Bool) (ps : Patches) (a : ℕ) → lookup (filter (λ p. t p.address) ps) a ≡ cond (t a) (lookup ps a) None
lookup_kept t [] a = grind arith
lookup_kept t (p ∷ ps) a = grind (arith, nat_tests, lookup_kept t ps a)

lookup_laid_inside : (first : ℕ) (bytes : List ℕ) (i : ℕ) → i < length bytes → lookup (laid first bytes) (first + i) ≡ Some (get_or bytes i 0)
lookup_laid_inside first [] i h = absurd (omega arith)
lookup_laid_inside first (b ∷ bs) zero h = grind (arith, nat_tests)
lookup_laid_inside first (b ∷ bs) (suc i) h = grind (arith, nat_tests, lookup_laid_inside (suc first) bs i (omega arith))

lookup_laid_outside : (first : ℕ) (bytes : List ℕ) (a : ℕ) → (a < first) ⊎ (first + length bytes ≤ a) → lookup (laid first bytes) a ≡ None
lookup_laid_outside first [] a h = refl
lookup_laid_outside first (b ∷ bs) a h = grind (arith, nat_tests, lookup_laid_outside (suc first) bs a)

-- what is found after an edit

found : (e : Edit) (ps : Patches) (a : ℕ)
    → lookup (edit e ps) a ≡ or_else (cond (ltb a (first_of e)) (lookup ps a) None) (or_else (lookup (laid (first_of e) (bytes_of e)) a) (cond (leb (first_of e + count_of e) a) (lookup ps a) None))
found e ps a = simp (lookup_append, lookup_kept (λ x. ltb x (first_of e)) ps a, lookup_kept (leb (first_of e + count_of e)) ps a)

pub changes : (e : Edit) (ps : Patches) → Changes e (lookup ps) (lookup (edit e ps))
changes e ps = record {
  inside = λ i h. grind (arith, nat_tests, found e ps (first_of e + i), lookup_laid_inside (first_of e) (bytes_of e) i);
  outside = λ a h. grind (arith, nat_tests, found e ps a, lookup_laid_outside (first_of e) (bytes_of e) a);
}
