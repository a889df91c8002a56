use Rattle.worked.proofs.Examples.{worked}
use Rattle.worked.proofs.laws.every_worked_example_holds.Goals as goal

pub returns : goal.returns
returns c = worked
