use Rattle.spaces.proofs.Arising.{arose}
use Rattle.spaces.proofs.laws.every_fault_arose_where_it_says.Goals as goal

pub returns : goal.returns
returns c = arose
