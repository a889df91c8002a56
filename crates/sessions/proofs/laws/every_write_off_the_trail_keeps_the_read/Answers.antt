use Rattle.sessions.proofs.Deciding.{kept_again}
use Rattle.sessions.proofs.laws.every_write_off_the_trail_keeps_the_read.Goals as goal

pub returns : goal.returns
returns c = kept_again
