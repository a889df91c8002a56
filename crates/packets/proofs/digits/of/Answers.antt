use Rattle.std.proofs.Common.{rules, ◌-◌, ◌∙◌, arith}
use Rattle.packets.proofs.Spelling.{one_before}
use Rattle.packets.proofs.Reading.{number_digits}
use Rattle.packets.proofs.digits.of.Goals as goal

pub loop-n-preserved : goal.loop-n-preserved
loop-n-preserved g c = record {
  long = search rules;
  so_far = rw c.lower.ensures (c.loop-n.invariant.so_far ∙ one_before c.loop-n.n (c.loop-n.n - 1) c.loop-n.rest c.loop-n.digits (omega arith) (omega arith));
}

pub returns-clause-back : goal.returns-clause-back
returns-clause-back g c = grind (arith, number_digits g.row.N c.args.value)
