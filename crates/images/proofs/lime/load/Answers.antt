use Rattle.std.proofs.Common.{arith}
use Rattle.std.proofs.lemmas.Grind.{common_steps}
use Rattle.images.proofs.Loading.{loads_to_end, loads_to_refusal, underway_more}
use Rattle.images.proofs.Headers.{there, ends_at, clamped}
use Rattle.images.proofs.lime.load.Goals as goal

pub returns-in-Err : goal.returns-in-Err
returns-in-Err c = let l = loads_to_refusal _ _ _ _ _ _ c.loop-place.invariant _ _ (there c.args.file.now _ c.loop-place-test.true) _ _ c.in-Err.ensures in grind (arith, common_steps)

pub loop-place-preserved : goal.loop-place-preserved
loop-place-preserved c = rw c.end_in-place.ensures (clamped c.args.file.now _ _ _ (underway_more _ _ _ _ _ _ c.loop-place.invariant _ _ (there c.args.file.now _ c.loop-place-test.true) _ _ c.in-Ok.ensures))

pub returns : goal.returns
returns c = let l = loads_to_end _ _ _ _ _ _ c.loop-place.invariant (ends_at c.args.file.now _ c.loop-place-test.false) in grind (arith, common_steps)
