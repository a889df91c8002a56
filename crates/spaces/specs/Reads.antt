use Rattle.std.specs.Prelude.{◌≡◌, ℕ, zero, suc, ◌-◌, ◌^◌, min, List, [], ◌∷◌, ◌++◌, length, drop, Some, None, Ok, Err, Option}
use Rattle.spaces.specs.declared.fault.Fault.{Fault}
use Rattle.spaces.specs.Maps.{Answer, Map}

-- consecutive addresses
abbrev pub span : ℕ → ℕ → List ℕ
span first zero = []
span first (suc n) = first ∷ span (suc first) n

-- what a read of some addresses gives: the bytes up to the first address without one, and its fault
pub record Got : Type 0 where
  pub bytes : List ℕ
  pub fault : Option Fault

abbrev pub then_got : Answer → Got → Got
then_got (Ok b) g = record { bytes = b ∷ g.bytes; fault = g.fault }
then_got (Err f) g = record { bytes = []; fault = Some f }

abbrev pub got : Map → List ℕ → Got
got m [] = record { bytes = []; fault = None }
got m (a ∷ xs) = then_got (m a) (got m xs)

-- the addresses of a read through the first without a byte
abbrev pub then_through : Answer → ℕ → List ℕ → List ℕ
then_through (Ok b) a rest = a ∷ rest
then_through (Err f) a rest = a ∷ []

abbrev pub through : Map → List ℕ → List ℕ
through m [] = []
through m (a ∷ xs) = then_through (m a) a (through m xs)

-- how many addresses from first on a buffer has room for, none above 2 ^ 64 - 1, and these addresses
abbrev pub most : ℕ → List ℕ → ℕ
most first buffer = min (length buffer) (2 ^ 64 - first)

abbrev pub room : ℕ → List ℕ → List ℕ
room first buffer = span first (most first buffer)

-- what a fill of a buffer from an address on answers and leaves: bytes in front, and from the count on the buffer as it was
pub record Fills (m : Map) (first : ℕ) (before after : List ℕ) (r : ℕ × Option Fault) : Type 0 where
  pub count : r.0 ≡ length (got m (room first before)).bytes
  pub fault : r.1 ≡ (got m (room first before)).fault
  pub buffer : after ≡ (got m (room first before)).bytes ++ drop r.0 before
