use Rattle.spaces.proofs.Resting.{rests_on_trail}
use Rattle.spaces.proofs.laws.every_read_rests_on_its_trail.Goals as goal

pub returns : goal.returns
returns c = rests_on_trail
