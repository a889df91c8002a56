use Rattle.sessions.proofs.Deciding.{decides}
use Rattle.sessions.proofs.laws.what_is_kept_leaves_nothing_open.Goals as goal

pub returns : goal.returns
returns c = decides
