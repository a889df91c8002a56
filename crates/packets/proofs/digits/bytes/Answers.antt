use Rattle.std.proofs.Common.{arith}
use Rattle.std.proofs.lemmas.List.{set-get_or}
use Rattle.std.proofs.lemmas.Grind.{common_steps}
use Rattle.packets.proofs.digits.bytes.Goals as goal

pub returns-in_default : goal.returns-in_default
returns-in_default c = rw set-get_or (grind (arith, common_steps))

pub returns-in_default-byte : goal.returns-in_default-byte
returns-in_default-byte c = rw set-get_or (grind (arith, common_steps))
