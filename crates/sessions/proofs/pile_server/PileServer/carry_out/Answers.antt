use Rattle.std.proofs.Common.{refl}
use Rattle.sessions.proofs.pile_server.PileServer.carry_out.Goals as goal

pub returns-in-Registers : goal.returns-in-Registers
returns-in-Registers g c = rw c.in-Registers.is (record { text = (refl, c.say-in-Registers.ensures); session = refl })
