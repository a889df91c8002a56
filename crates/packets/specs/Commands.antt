use Rattle.std.specs.Prelude.{ℕ, List, Ok, Err, Result}
use Rattle.packets.specs.declared.command_refusal.CommandRefusal.{CommandRefusal}
use Rattle.packets.specs.declared.command.Command as declared
use Rattle.packets.specs.declared.command.Command.TheVariants as is

-- what a payload asks for
pub data Asked : Type 0 where
  why_halted registers detach thread supported last_fault unknown : Asked
  read : (first count : ℕ) → Asked
  write : (first : ℕ) (digits : List ℕ) → Asked
  depth : ℕ → Asked

-- what a command of the program is
abbrev pub meant : declared.Command → Asked
meant is.WhyHalted = why_halted
meant (is.Read first count) = read first count
meant (is.Write first digits) = write first digits.now
meant is.Registers = registers
meant is.Detach = detach
meant is.Thread = thread
meant is.Supported = supported
meant (is.Depth d) = depth d
meant is.LastFault = last_fault
meant is.Unknown = unknown

-- the same of a command or a refusal
abbrev pub meant_by : Result declared.Command CommandRefusal → Result Asked CommandRefusal
meant_by (Ok command) = Ok (meant command)
meant_by (Err refusal) = Err refusal
