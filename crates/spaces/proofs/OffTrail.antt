use Rattle.std.proofs.Common.{◌≡◌, ℕ, ◌-◌, Some, None, Ok, Option, sym, refl, inl, inr, arith}
use Rattle.std.proofs.lemmas.Bool.{cases_eq}
use Rattle.spaces.specs.Patches.{Patches}
use Rattle.spaces.specs.Piles.{LawfulPile}
use Rattle.spaces.specs.Edits.{Edit, first_of, patches_at, patch_at, edited, refusal, outcome}
use Rattle.spaces.specs.EditLaws.{Touches, PileEditLaws}
use Rattle.spaces.specs.PileLaws.{EveryEditOffTheTrailKeepsTheRead}
use Rattle.spaces.proofs.PileEdits.{pile_edit_laws}
use Rattle.spaces.proofs.Resting.{rests_on_trail}

-- an edit keeps the patch, or its absence, at a depth and an address that it does not touch
module _ (p : LawfulPile) (k : ℕ) (e : Edit) where
  laws : PileEditLaws k e p.pile (edited p.pile k e) (outcome (refusal p.pile k e))
  laws = pile_edit_laws p k e

  here : (a : ℕ) → (Touches e (patch_at p.pile k) a → ⊥) → (o : Option Patches) → patches_at p.pile.layers k ≡ o → patch_at p.pile k a ≡ patch_at (edited p.pile k e) k a
  here a off None q = grind (arith, laws.none q)
  here a off (Some ps) q =
      let t = laws.overlay ps q in
      let inside = λ (z : outcome (refusal p.pile k e) ≡ Ok tt). (t.2.accepted z).inside (a - first_of e) in
      let outside = λ (z : outcome (refusal p.pile k e) ≡ Ok tt). (t.2.accepted z).outside a in
      grind (arith, inside, outside)

  pub kept_patch : (j a : ℕ) → ((j ≡ k) → Touches e (patch_at p.pile k) a → ⊥) → patch_at p.pile j a ≡ patch_at (edited p.pile k e) j a
  kept_patch j a off = elim (cases_eq j k) [
    | inl q ↦ rw q (here a (off q) (patches_at p.pile.layers k) refl)
    | inr n ↦ let z = laws.elsewhere j n in cc
  ]

pub kept_off_trail : EveryEditOffTheTrailKeepsTheRead
kept_off_trail p k e xs h = rests_on_trail p (edited p.pile k e) xs (record {
  layers = sym (pile_edit_laws p k e).rest;
  patches = λ j a t. kept_patch p k e j a (λ q. h a (rw q at t));
})
