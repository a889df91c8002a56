use Rattle.sessions.proofs.Touching.{takes_accepted}
use Rattle.sessions.proofs.laws.nothing_refused_takes_effect.Goals as goal

pub returns : goal.returns
returns c = takes_accepted
