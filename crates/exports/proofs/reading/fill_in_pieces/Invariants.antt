use Rattle.std.proofs.Common.{◌-◌, ◌<◌}
use Rattle.spaces.specs.Piles.{shown}
use Rattle.spaces.proofs.Filling.{Filled}
use Rattle.exports.proofs.reading.fill_in_pieces.Given as goal

abbrev pub invariant-loop-count : goal.invariant-loop-count
invariant-loop-count g l = (0 < l.size) × Filled (shown (g.S.Space.meaning l.space)) l.first l.count l.initial.into l.into

abbrev pub decreases-loop-count : goal.decreases-loop-count
decreases-loop-count g l = l.room - l.count
