use Rattle.std.proofs.Common.{length, arith}
use Rattle.serving.proofs.Serving.{each_item}
use Rattle.serving.proofs.laws.each_item_in_turn.Goals as goal

pub returns : goal.returns
returns c service v stream items rest runs = each_item service (length stream) v stream items rest (omega arith) runs
