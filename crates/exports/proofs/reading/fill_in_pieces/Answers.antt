use Rattle.std.proofs.Common.{arith}
use Rattle.spaces.proofs.Filling.{part_filled, part_stopped}
use Rattle.exports.proofs.reading.fill_in_pieces.Goals as goal

pub returns-then-count-end : goal.returns-then-count-end
returns-then-count-end g c = part_stopped _ _ _ _ _ _ _ _ c.loop-count.invariant.1 (omega arith) c.fill-placed.ensures (omega arith)

pub loop-count-preserved : goal.loop-count-preserved
loop-count-preserved g c = (c.loop-count.invariant.0, part_filled _ _ _ _ _ _ _ _ c.loop-count.invariant.1 (omega arith) c.fill-placed.ensures)
