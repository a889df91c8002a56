use Rattle.std.specs.Prelude.{ℕ}
use Rattle.spaces.specs.Refusals.{edit_refusal_number}
use Rattle.packets.specs.Refusals.{command_refusal_number}
use Rattle.sessions.specs.declared.refusal.PayloadRefusal.{PayloadRefusal}
use Rattle.sessions.specs.declared.refusal.PayloadRefusal.TheVariants.{Command, Edit}

-- the number of each refusal of a payload
abbrev pub payload_refusal_number : PayloadRefusal → ℕ
payload_refusal_number (Command refusal) = command_refusal_number refusal
payload_refusal_number (Edit refusal) = edit_refusal_number refusal
