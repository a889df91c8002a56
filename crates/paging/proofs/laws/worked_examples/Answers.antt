use Rattle.paging.proofs.Examples.{worked}
use Rattle.paging.proofs.laws.worked_examples.Goals as goal

pub returns : goal.returns
returns c = worked
