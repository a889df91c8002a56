use Rattle.std.proofs.Common.{arith}
use Rattle.std.proofs.lemmas.Grind.{common_steps}
use Rattle.patchfiles.proofs.Running.{runs_to_end, underway_more, runs_to_refusal}
use Rattle.patchfiles.proofs.applying.run.Goals as goal

pub returns-in-Err : goal.returns-in-Err
returns-in-Err g c = λ marks e. runs_to_refusal _ _ _ _ _ _ (c.loop-index.invariant marks e) c.loop-index-test.true _ c.in-Err.ensures

pub loop-index-preserved : goal.loop-index-preserved
loop-index-preserved g c = λ marks e. underway_more _ _ _ _ _ _ (c.loop-index.invariant marks e) c.loop-index-test.true (grind (arith, common_steps))

pub returns : goal.returns
returns g c = λ marks e. runs_to_end _ _ _ _ (g.S.Space.meaning c.loop-index.space) _ (c.loop-index.invariant marks e) c.loop-index-test.false c.loop-index.auto.index-end
