use Rattle.std.specs.Prelude.{◌≡◌, ℕ, suc, ◌+◌, ◌<◌, ◌≤◌, ◌⊎◌, length, Err}
use Rattle.spaces.specs.declared.fault.Fault.{Fault}
use Rattle.spaces.specs.declared.watch.Watched.{Watched}
use Rattle.spaces.specs.Maps.{Answer, own}
use Rattle.spaces.specs.Walks.{found}
use Rattle.spaces.specs.Piles.{Pile, on, walking, shown}
use Rattle.spaces.specs.PileLaws.{Arose}
use Rattle.outsiders.specs.Shapes.{window}

-- the pile of a window on another
abbrev pub through_window : ℕ → ℕ → Pile → Pile
through_window start size below = on (walking (window start size)) below

-- a read through a window: a fault is its own, or it arose in the pile below, where it is one less deep
pub record Blames (start size : ℕ) (below : Pile) (at : ℕ) (r : Answer) : Type 0 where
  pub answer : r ≡ found at (window start size at) (shown below)
  pub arose : (f : Fault) → r ≡ Err f → length below.layers < 255
      → (f ≡ own at f.cause) ⊎ ((d : ℕ) × (f.depth ≡ suc d) × Arose below (record { depth = d; address = f.address; cause = f.cause }))

-- addresses that a window on the space below does not show
abbrev pub Unseen : ℕ → ℕ → ℕ → ℕ → Watched → Type 0
Unseen start size first count w = (first + count ≤ start) ⊎ (start + size ≤ first) → w.after ≡ w.before
