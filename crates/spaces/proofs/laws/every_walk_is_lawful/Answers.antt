use Rattle.spaces.proofs.Walking.{walk_lawful}
use Rattle.spaces.proofs.laws.every_walk_is_lawful.Goals as goal

pub returns : goal.returns
returns c = walk_lawful
