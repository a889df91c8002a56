use Rattle.std.specs.Prelude.{ℕ, ◌+◌, min, Ok, Err, Result}
use Rattle.spaces.specs.declared.fault.Fault.{Fault}

-- what there is at an address: a byte or a fault
abbrev pub Answer : Type 0
Answer = Result ℕ Fault

-- a map has an answer at every address
abbrev pub Map : Type 0
Map = ℕ → Answer

-- a space's own fault: depth 0 and the address read
abbrev pub own : ℕ → ℕ → Fault
own a cause = record { depth = 0; address = a; cause = cause }

-- a fault one layer further up: its depth grows by one, up to 255
abbrev pub climbed : Fault → Fault
climbed f = record { depth = min 255 (f.depth + 1); address = f.address; cause = f.cause }

-- an answer of the space below, as a layer passes it up
abbrev pub raised : Answer → Answer
raised (Ok b) = Ok b
raised (Err f) = Err (climbed f)

-- a map from bytes and causes alone: each fault is the map's own
abbrev pub owned : ℕ → Result ℕ ℕ → Answer
owned a (Ok b) = Ok b
owned a (Err cause) = Err (own a cause)
