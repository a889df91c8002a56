use Rattle.serving.proofs.Serving.{enough}
use Rattle.serving.proofs.laws.few_turns.Goals as goal

pub returns : goal.returns
returns c service v stream n few = enough service n v stream few
