use Rattle.std.proofs.Common.{arith, rules}
use Rattle.std.proofs.lemmas.List.{set-get_or}
use Rattle.spaces.proofs.Filling.{stopped, one_more}
use Rattle.spaces.proofs.space.Space.fill.Goals as goal

pub loop-n-preserved : goal.loop-n-preserved
loop-n-preserved g c = one_more _ _ _ _ _ c.loop-n.invariant _ (omega arith) (search rules)

pub returns-in-Err : goal.returns-in-Err
returns-in-Err g c = rw set-get_or (stopped _ _ _ _ _ c.loop-n.invariant _ (omega arith) (search rules))
