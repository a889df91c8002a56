use Rattle.sessions.proofs.Smallest.{smallest}
use Rattle.sessions.proofs.laws.every_refusal_has_the_smallest_number.Goals as goal

pub returns : goal.returns
returns c = smallest
