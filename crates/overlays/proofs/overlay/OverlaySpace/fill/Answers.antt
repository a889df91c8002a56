use Rattle.std.proofs.Common.{◌+◌, arith}
use Rattle.spaces.proofs.Filling.{one_more}
use Rattle.overlays.specs.Tables.{held}
use Rattle.overlays.proofs.Stretches.{shows_patch, stretch_filled, stretch_empty}
use Rattle.overlays.proofs.overlay.OverlaySpace.fill.Goals as goal

pub loop-count-preserved-in-Some : goal.loop-count-preserved-in-Some
loop-count-preserved-in-Some g c =
    let below = g.S.Space.meaning c.args.self.now.below in
    one_more _ _ _ _ _ c.loop-count.invariant _ (omega arith) (shows_patch (held c.args.self.now.patches) below (c.args.first + c.loop-count.count) _ c.in-Some.ensures)

pub returns-then-placed-eq0 : goal.returns-then-placed-eq0
returns-then-placed-eq0 g c =
    let below = g.S.Space.meaning c.args.self.now.below in
    stretch_empty _ below _ _ _ _ _ _ _ c.loop-count.invariant (omega arith) c.fill_below-placed.ensures c.if-placed-eq0.true (omega arith) c.in_default.ensures

pub loop-count-preserved : goal.loop-count-preserved
loop-count-preserved g c =
    let below = g.S.Space.meaning c.args.self.now.below in
    stretch_filled _ below _ _ _ _ _ _ _ _ _ c.loop-count.invariant (omega arith) c.fill_below-placed.ensures (omega arith) c.lay_over.ensures
