use Rattle.std.proofs.Common.{arith}
use Rattle.overlays.proofs.Splicing.{laid_more, laid_fits}
use Rattle.overlays.proofs.table.places.append.Goals as goal

pub push-requires : goal.push-requires
push-requires c = (omega arith, laid_fits _ _ _ _ _ (omega arith) c.loop-i.invariant c.requires.room)

pub loop-i-preserved : goal.loop-i-preserved
loop-i-preserved c =
    let more = laid_more c.args.patches.now.items c.args.first c.args.bytes.now c.loop-i.i (omega arith) in
    grind arith
