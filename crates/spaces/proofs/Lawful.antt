use Rattle.std.proofs.Common.{◌≡◌, ℕ, Err, Result, arith}
use Rattle.spaces.specs.declared.fault.Fault.{Fault}
use Rattle.spaces.specs.Maps.{own, owned}
use Rattle.spaces.specs.Rules.{Own}
use Rattle.spaces.specs.Piles.{Layer, LawfulLayer, Pile, bottom, on, Lawful}

-- A bottom that is given by bytes and causes keeps its law, and a lawful layer on a lawful pile makes a lawful pile.

pub err_err : {X : Type 0} (f g : Fault) → ◌≡◌ {A = Result X Fault} (Err f) (Err g) → f ≡ g
err_err f g e = cc

-- a space's own fault, once more
pub own_is : (a cause : ℕ) (f : Fault) → own a cause ≡ f → Own a f
own_is a cause f e = grind arith

-- bytes and causes make own faults alone
pub owned_own : (a : ℕ) (w : Result ℕ ℕ) (f : Fault) → owned a w ≡ Err f → Own a f
owned_own a w f e = grind arith

pub bottom_lawful : (w : ℕ → Result ℕ ℕ) → Lawful (bottom w)
bottom_lawful w = record { layers = tt; base = λ a f. owned_own a (w a) f }

pub on_lawful : (l : Layer) (p : Pile) → LawfulLayer l → Lawful p → Lawful (on l p)
on_lawful l p h below = record { layers = (h, below.layers); base = below.base }
