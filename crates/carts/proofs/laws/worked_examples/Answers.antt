use Rattle.carts.proofs.Examples.{worked}
use Rattle.carts.proofs.laws.worked_examples.Goals as goal

pub returns : goal.returns
returns c = worked
