use Rattle.std.specs.Prelude.{◌≡◌, ℕ, ◌+◌, ◌<◌, List, length, Some, None, Ok, Err, Option, slice_index}
use Rattle.spaces.specs.declared.fault.Fault.{Fault}
use Rattle.spaces.specs.Maps.{Map}
use Rattle.packets.specs.Frames.{framed}
use Rattle.sessions.specs.Answers.{spoken}

-- what a map has from an address on, at so many addresses: bytes, up to the first without one, and its fault
pub record Shows (m : Map) (first count : ℕ) (bytes : List ℕ) (met : Option Fault) : Type 0 where
  pub each : (i : ℕ) → i < length bytes → m (first + i) ≡ Ok (slice_index bytes i)
  pub whole : met ≡ None → length bytes ≡ count
  pub stops : (f : Fault) → met ≡ Some f → (length bytes < count) × (m (first + length bytes) ≡ Err f)

-- a frame has these bytes, or the cause why the very first address has none
pub record ShownIn (frame : List ℕ) (m : Map) (first count : ℕ) : Type 0 where
  pub bytes : List ℕ
  pub met : Option Fault
  pub shows : Shows m first count bytes met
  pub is : frame ≡ framed (spoken bytes met)
