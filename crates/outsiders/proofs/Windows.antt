use Rattle.std.proofs.Common.{◌≡◌, ℕ, zero, suc, ◌+◌, ◌<◌, ◌≤◌, ◌⊎◌, List, [], ◌∷◌, length, Err, refl, inl, inr, arith}
use mathlib.Core.List.Memᴰ
use mathlib.Core.List.{Memᴰ}
use Rattle.std.proofs.lemmas.Bool.Decides.{nat_tests}
use Rattle.spaces.specs.declared.fault.Fault.{Fault}
use Rattle.spaces.specs.Maps.{Answer, Map, own}
use Rattle.spaces.specs.Walks.{walked}
use Rattle.spaces.specs.Piles.{walking, Pile, shown}
use Rattle.spaces.specs.Edits.{setting}
use Rattle.spaces.specs.PileLaws.{Arose, Misses}
use Rattle.spaces.specs.CallLaws.{Locates}
use Rattle.spaces.proofs.Walking.{walk_lawful}
use Rattle.spaces.proofs.Below.{trail_below}
use Rattle.outsiders.specs.Shapes.{window}
use Rattle.outsiders.specs.Sights.{through_window, Blames}

module _ (start size : ℕ) (below : Pile) where
  abbrev seen : Pile
  seen = through_window start size below

  -- a window rests on the one address that it shows
  trail_in : (m : Map) (at : ℕ) → ((walked at (window start size at) m).1 ≡ []) ⊎ (((walked at (window start size at) m).1 ≡ (start + at) ∷ []) × (at < size))
  trail_in m at = grind (arith, nat_tests)

  rests_inside : (m : Map) (at x : ℕ) → Memᴰ x (walked at (window start size at) m).1 → (start ≤ x) × (x < start + size)
  rests_inside m at x t = elim (trail_in m at) [
    | inl e ↦ absurd (Memᴰ.not-nil (rw e at t))
    | inr e ↦ let q = Memᴰ.eq_of_singleton (rw e.0 at t) in grind arith
  ]

  pub unseen : (first : ℕ) (bytes : List ℕ) (at : ℕ) → (first + length bytes ≤ start) ⊎ (start + size ≤ first) → Misses seen (at ∷ []) 1 (setting first bytes)
  unseen first bytes at h x t i = let s = rests_inside (shown below) at x (rw (trail_below (walking (window start size)) below at) at t) in grind arith

  -- a fault of depth 0 is the window's own, and any other arose below
  blamed : (at : ℕ) (f : Fault) → shown seen at ≡ Err f → Arose seen f → (k : ℕ) → f.depth ≡ k
      → (f ≡ own at f.cause) ⊎ ((d : ℕ) × (f.depth ≡ suc d) × Arose below (record { depth = d; address = f.address; cause = f.cause }))
  blamed at f e s zero q = let o = (walk_lawful (window start size)).faults (shown below) at f e in inl (grind arith)
  blamed at f e s (suc d) q = inr (d, q, grind arith)

  pub blames : (at : ℕ) (r : Answer) → Locates seen at r → Blames start size below at r
  blames at r l = record { answer = l.answer; arose = λ f e n. blamed at f (cc) (l.arose f e (omega arith)) f.depth refl }
