use Rattle.std.proofs.Common.{ap, arith, length, length-take}
use Rattle.serving.proofs.Reading.{read_on}
use Rattle.serving.proofs.received.Received.read.Goals as goal

pub returns-in-Ok-clause-ok : goal.returns-in-Ok-clause-ok
returns-in-Ok-clause-ok g c =
    let r = c.loop.invariant in
    let same = ap length r.same in
    let l = length-take c.loop.self.count c.loop.self.bytes in
    rw (← r.same) (read_on _ _ _ c.loop.self.bytes c.read.new.buf c.loop.self.count _ c.in-Ok.n r.none_read c.in-Ok.ensures.bytes (omega arith) (omega arith) (omega arith))
