use Rattle.std.proofs.Common.{arith}
use Rattle.std.proofs.lemmas.Grind.{common_steps}
use Rattle.paging.proofs.Descents.{descend_found, next}
use Rattle.paging.proofs.walk.walk.Goals as goal

pub returns-in_err-entry-clause-is : goal.returns-in_err-entry-clause-is
returns-in_err-entry-clause-is g c = grind (arith, common_steps, descend_found)

pub returns-in-Leaf-clause-is : goal.returns-in-Leaf-clause-is
returns-in-Leaf-clause-is g c = grind (arith, descend_found)

pub loop-level-preserved : goal.loop-level-preserved
loop-level-preserved g c = grind (arith, next, g.met.P.Scheme.sound)
