use Rattle.std.specs.Prelude.{ℕ, min, List, [], ◌∷◌, None, Ok, Err, Option, Result}
use Rattle.spaces.specs.declared.fault.Fault.{Fault}
use Rattle.spaces.specs.Maps.{Map}
use Rattle.spaces.specs.Reads.{got, span}
use Rattle.spaces.specs.Edits.{setting}
use Rattle.packets.specs.declared.command_refusal.CommandRefusal.{CommandRefusal}
use Rattle.packets.specs.Digits.{paired}
use Rattle.packets.specs.Commands.{Asked, read, write, depth}
use Rattle.patchfiles.specs.Runs.{Mark}

-- What commands do. A refused one does nothing.

-- the edits that a command asks for, at an edit depth
abbrev pub written : ℕ → Asked → List Mark
written d (write first digits) = record { depth = d; edit = setting first (paired digits) } ∷ []
written d other = []

-- the edit depth after it
abbrev pub deepened : ℕ → Asked → ℕ
deepened d (depth k) = k
deepened d other = d

-- the addresses that a read is for: at most 2,048
abbrev pub at_most : ℕ → ℕ
at_most count = min count 2048

abbrev pub asked_for : ℕ → ℕ → List ℕ
asked_for first count = span first (at_most count)

-- the fault that it meets
abbrev pub met : Map → Asked → Option Fault
met m (read first count) = (got m (asked_for first count)).fault
met m other = None

-- the same of a payload, by what it asks for
abbrev pub written_by : ℕ → Result Asked CommandRefusal → List Mark
written_by d (Ok asked) = written d asked
written_by d (Err refusal) = []

abbrev pub deepened_by : ℕ → Result Asked CommandRefusal → ℕ
deepened_by d (Ok asked) = deepened d asked
deepened_by d (Err refusal) = d

abbrev pub met_by : Map → Result Asked CommandRefusal → Option Fault
met_by m (Ok asked) = met m asked
met_by m (Err refusal) = None
