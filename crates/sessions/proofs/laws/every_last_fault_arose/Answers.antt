use Rattle.sessions.proofs.Deciding.{last_arose}
use Rattle.sessions.proofs.laws.every_last_fault_arose.Goals as goal

pub returns : goal.returns
returns c = last_arose
