use Rattle.spaces.proofs.OffTrail.{kept_off_trail}
use Rattle.spaces.proofs.laws.every_edit_off_the_trail_keeps_the_read.Goals as goal

pub returns : goal.returns
returns c = kept_off_trail
