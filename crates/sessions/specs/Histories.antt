use Rattle.std.specs.Prelude.{ℕ, List, ◌∷◌, Result}
use Rattle.patchfiles.specs.declared.stopped.Stopped.{Stopped}

-- what happens to a session: bytes are heard, a payload is answered with a frame, a file is applied with an outcome
pub data Event : Type 0 where
  heard : (received : List ℕ) → Event
  answered : (payload frame : List ℕ) → Event
  applied : (file : List ℕ) (outcome : Result ℕ Stopped) → Event

-- all that has happened, the newest first
abbrev pub History : Type 0
History = List Event

-- what a history was at some time
pub data Earlier : History → History → Type 0 where
  same : {h : History} → Earlier h h
  before : {h k : History} {e : Event} → Earlier h k → Earlier h (e ∷ k)
