use Rattle.std.proofs.Common.{rules, arith}
use Rattle.std.proofs.lemmas.List.{drop_more}
use Rattle.std.proofs.lemmas.Grind.{common_steps}
use Rattle.packets.proofs.Spelling.{one_more, fits}
use Rattle.packets.proofs.digits.number_in.Goals as goal

pub overflow_mul-number : goal.overflow_mul-number
overflow_mul-number c = omega (arith, fits c.loop-c.number c.loop-c.c-index c.loop-c.invariant.small 0)

pub overflow_add-number : goal.overflow_add-number
overflow_add-number c = omega (arith, fits c.loop-c.number c.loop-c.c-index c.loop-c.invariant.small c.in_ok-number.field-0 (search rules))

pub loop-c-preserved : goal.loop-c-preserved
loop-c-preserved c = record {
  left = grind (arith, common_steps, drop_more c.args.digits.now c.loop-c.c-index 0);
  small = one_more c.loop-c.number c.loop-c.c-index c.loop-c.invariant.small c.in_ok-number.field-0 (search rules);
}
