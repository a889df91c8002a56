use Rattle.std.proofs.Common.{rules, arith}
use Rattle.packets.proofs.Reading.{front_back}
use Rattle.packets.proofs.digits.spell.Goals as goal

pub returns-clause-back : goal.returns-clause-back
returns-clause-back c = front_back c.args.bytes.now c.args.out.now c.loop-n.out c.min-count.result (search rules) (search rules) (λ i. omega (arith, c.type_inv.bytes i))
