use Rattle.paging.proofs.Examples.{short_trails}
use Rattle.paging.proofs.laws.every_trail_is_short.Goals as goal

pub returns : goal.returns
returns c = short_trails
