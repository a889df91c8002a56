use Rattle.std.proofs.Common.{arith, pow_mono}
use Rattle.paging.specs.Fields.{field_none}
use Rattle.paging.proofs.bits.field.Goals as goal

pub returns-then-low-gt63 : goal.returns-then-low-gt63
returns-then-low-gt63 c = grind (arith, field_none c.args.high c.args.low c.args.x, pow_mono {i = 64} {j = c.args.low})
