use Rattle.std.specs.Prelude.{◌≡◌, ℕ, ◌≤◌, [], ◌∷◌, length, Err}
use Rattle.spaces.specs.declared.fault.Fault.{Fault}
use Rattle.spaces.specs.declared.watch.Watched.{Watched}
use Rattle.spaces.specs.Maps.{Answer}
use Rattle.spaces.specs.Piles.{Pile, shown}
use Rattle.spaces.specs.Edits.{Edit, Edits}
use Rattle.spaces.specs.EditLaws.{PileEditLaws}
use Rattle.spaces.specs.PileLaws.{Arose, Misses}

-- The calls on any space that carry what holds of its pile.

-- a read of one address: the composed map's answer, and a fault arose where it says
pub record Locates (p : Pile) (at : ℕ) (r : Answer) : Type 0 where
  pub answer : r ≡ shown p at
  pub arose : (f : Fault) → r ≡ Err f → length p.layers ≤ 255 → Arose p f

-- an edit while one address is watched: off its trail, the edit changes nothing there
pub record Watches (old new : Pile) (depth : ℕ) (e : Edit) (at : ℕ) (w : Watched) : Type 0 where
  pub edits : Edits old new depth e w.outcome
  pub laws : PileEditLaws depth e old new w.outcome
  pub before : w.before ≡ shown old at
  pub after : w.after ≡ shown new at
  pub kept : Misses old (at ∷ []) depth e → w.after ≡ w.before
