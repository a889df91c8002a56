use Rattle.packets.proofs.Spelling.{Paired}
use Rattle.packets.proofs.digits.bytes.Given as goal

abbrev pub invariant-loop-n : goal.invariant-loop-n
invariant-loop-n l = Paired l.fn.digits l.rest l.initial.out l.out l.n
