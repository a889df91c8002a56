use Rattle.std.proofs.Common.{◌-◌}
use Rattle.spaces.specs.Piles.{on, overlay, shown}
use Rattle.spaces.proofs.Filling.{Filled}
use Rattle.overlays.specs.Tables.{held}
use Rattle.overlays.proofs.overlay.OverlaySpace.fill.Given as goal

abbrev pub invariant-loop-count : goal.invariant-loop-count
invariant-loop-count g l = Filled (shown (on (overlay (held l.self.patches)) (g.S.Space.meaning l.self.below))) l.first l.count l.initial.out l.out

abbrev pub decreases-loop-count : goal.decreases-loop-count
decreases-loop-count g l = l.room - l.count
