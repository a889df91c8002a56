use Rattle.std.specs.Prelude.{ℕ, None, Option}
use Rattle.spaces.specs.declared.fault.Fault.{Fault}
use Rattle.spaces.specs.Piles.{Pile}

-- what a session is: its pile, the depth at which bytes are patched, and the latest fault that a read met
pub record State : Type 0 where
  pub pile : Pile
  pub depth : ℕ
  pub last : Option Fault

-- a new one over a pile
abbrev pub fresh : Pile → State
fresh p = record { pile = p; depth = 0; last = None }
