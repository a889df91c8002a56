use Rattle.std.proofs.Common.{◌≡◌, ℕ, ◌⊎◌, List, Ok, Err, Result, refl, inl, inr, arith}
use mathlib.Core.List.{Memᴰ}
use Rattle.spaces.specs.declared.fault.Fault.{Fault}
use Rattle.spaces.specs.Maps.{Answer, Map}
use Rattle.spaces.specs.Rules.{Agree, Own, Climbs}
use Rattle.spaces.specs.Walks.{Walk, give, fail, ask, asked, walked, EveryWalkIsLawful}
use Rattle.spaces.specs.Piles.{walking, Pile, on, Lawful}
use Rattle.spaces.proofs.Lawful.{on_lawful}

-- Every layer that is described by a walk keeps both laws.

-- an address that is asked stands in the trail
asked_first : {X : Type 0} (w : Answer) (x : ℕ) (k : ℕ → Result X Fault × List ℕ) → Memᴰ x (asked w x k).1
asked_first (Ok b) x k = Memᴰ.head refl
asked_first (Err f) x k = Memᴰ.head refl

walk_footing : {X : Type 0} (a : ℕ) (w : Walk X) (m n : Map) → Agree (walked a w m).1 m n → walked a w m ≡ walked a w n
walk_footing a (give v) m n h = refl
walk_footing a (fail c) m n h = refl
walk_footing a (ask x k) m n h = rw (← h x (asked_first (m x) x _)) (step (m x) h (λ b. walk_footing a (k b) m n))
  where
    step : (w : Answer) → Agree (asked w x (λ b. walked a (k b) m)).1 m n → ((b : ℕ) → Agree (walked a (k b) m).1 m n → walked a (k b) m ≡ walked a (k b) n)
        → asked w x (λ b. walked a (k b) m) ≡ asked w x (λ b. walked a (k b) n)
    step (Ok b) h ih = let e = ih b (λ y t. h y (Memᴰ.tail t)) in cc
    step (Err f) h ih = refl

walk_faults : (a : ℕ) (w : Walk ℕ) (m : Map) (f : Fault) → (walked a w m).0 ≡ Err f → Own a f ⊎ Climbs m (walked a w m).1 f
walk_faults a (give v) m f e = cc
walk_faults a (fail c) m f e = inl (grind arith)
walk_faults a (ask x k) m f e = step (m x) refl (λ b. walk_faults a (k b) m f) e
  where
    step : (w : Answer) → m x ≡ w → ((b : ℕ) → (walked a (k b) m).0 ≡ Err f → Own a f ⊎ Climbs m (walked a (k b) m).1 f)
        → (asked w x (λ b. walked a (k b) m)).0 ≡ Err f → Own a f ⊎ Climbs m (asked w x (λ b. walked a (k b) m)).1 f
    step (Ok b) q ih e = elim (ih b e) [ inl o ↦ inl o | inr c ↦ inr (c.0, c.1, Memᴰ.tail c.2, c.3, c.4) ]
    step (Err g) q ih e = inr (x, g, Memᴰ.head refl, q, cc)

pub walk_lawful : EveryWalkIsLawful
walk_lawful w = record { footing = λ m n a. walk_footing a (w a) m n; faults = λ m a f. walk_faults a (w a) m f }

pub walking_lawful : (w : ℕ → Walk ℕ) (p : Pile) → Lawful p → Lawful (on (walking w) p)
walking_lawful w p h = on_lawful (walking w) p (walk_lawful w) h
