use Rattle.std.proofs.Common.{◌≡◌, ℕ, zero, suc, ◌-◌, ◌<◌, ◌≤◌, [], ◌∷◌, length, get_or, Some, sym, refl, inl, inr, arith}
use Rattle.std.proofs.lemmas.Bool.{cases_eq}
use Rattle.std.proofs.lemmas.Bool.Decides.{nat_tests}
use Rattle.spaces.specs.declared.patch.Patch.{Patch}
use Rattle.spaces.specs.Patches.{Patches, Ascending, lookup}
use Rattle.spaces.specs.Edits.{Edit, first_of}
use Rattle.spaces.specs.EditLaws.{Patched, Changes, Would, Exactly}

-- ascending patches by place

-- what a read past the last place gives
abbrev pub blank : Patch
blank = record { address = 0; byte = 0 }

bounded : (n : ℕ) (ps : Patches) (k : ℕ) → Ascending n ps → k < length ps → n ≤ (get_or ps k blank).address
bounded n [] k s h = absurd (omega arith)
bounded n (p ∷ ps) zero s h = grind (arith, nat_tests)
bounded n (p ∷ ps) (suc k) s h = grind (arith, nat_tests, bounded (suc p.address) ps k)

climbs : (n : ℕ) (ps : Patches) (i j : ℕ) → Ascending n ps → i < j → j < length ps → (get_or ps i blank).address < (get_or ps j blank).address
climbs n [] i j s h k = absurd (omega arith)
climbs n (p ∷ ps) i zero s h k = absurd (omega arith)
climbs n (p ∷ ps) zero (suc j) s h k = grind (arith, nat_tests, bounded (suc p.address) ps j)
climbs n (p ∷ ps) (suc i) (suc j) s h k = grind (arith, nat_tests, climbs (suc p.address) ps i j)

pub rises : (ps : Patches) (i j : ℕ) → Ascending 0 ps → i ≤ j → j < length ps → (get_or ps i blank).address ≤ (get_or ps j blank).address
rises ps i j s h k = grind (arith, climbs 0 ps i j)

-- what stands at a place is found
lookup_at : (n : ℕ) (ps : Patches) (k a : ℕ) → Ascending n ps → k < length ps → (get_or ps k blank).address ≡ a → lookup ps a ≡ Some (get_or ps k blank).byte
lookup_at n [] k a s h e = absurd (omega arith)
lookup_at n (p ∷ ps) zero a s h e = grind (arith, nat_tests)
lookup_at n (p ∷ ps) (suc k) a s h e = grind (arith, nat_tests, bounded (suc p.address) ps k, lookup_at (suc p.address) ps k a)

-- what is found stands at a place
listed : (ps : Patches) (a : ℕ) → Patched (lookup ps) a → (k : ℕ) × (k < length ps) × ((get_or ps k blank).address ≡ a)
listed [] a h = cc
listed (p ∷ ps) a h = elim (cases_eq a p.address) [
  | inl e ↦ (0, omega arith, sym e)
  | inr n ↦ let t = listed ps a (grind (arith, nat_tests)) in (suc t.0, omega (arith, t.1), t.2)
]

-- the addresses that would be patched after an edit are those that then are, one for each patch
pub exactly_edited : (e : Edit) (old new : Patches) → Ascending 0 new → Changes e (lookup old) (lookup new) → Exactly (length new) (Would e (lookup old))
exactly_edited e old new asc s = record {
  nth = λ k. (get_or new k blank).address;
  each = λ k h. let at = (get_or new k blank).address in let p = lookup_at 0 new k at asc h refl in grind (arith, s.inside (at - first_of e), s.outside at);
  apart = λ i j. climbs 0 new i j asc;
  every = λ a w. listed new a (grind (arith, s.inside (a - first_of e), s.outside a));
}
