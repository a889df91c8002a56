use Rattle.std.specs.Prelude.{ℕ}
use Rattle.packets.specs.declared.frame_refusal.FrameRefusal.{FrameRefusal}
use Rattle.packets.specs.declared.frame_refusal.FrameRefusal.TheVariants.{WrongSum, NoEnd}
use Rattle.packets.specs.declared.command_refusal.CommandRefusal.{CommandRefusal}
use Rattle.packets.specs.declared.command_refusal.CommandRefusal.TheVariants.{BadForm, NoAddresses, WrongDigits, PastTheEnd}

-- the number of each refusal of a frame
abbrev pub frame_refusal_number : FrameRefusal → ℕ
frame_refusal_number WrongSum = 0x20
frame_refusal_number NoEnd = 0x21

-- the number of each refusal of a command
abbrev pub command_refusal_number : CommandRefusal → ℕ
command_refusal_number BadForm = 0x22
command_refusal_number NoAddresses = 0x23
command_refusal_number WrongDigits = 0x24
command_refusal_number PastTheEnd = 0x25
