use Rattle.serving.proofs.Histories.{served_kept}
use Rattle.serving.proofs.laws.every_served_session_is_kept.Goals as goal

pub returns : goal.returns
returns c = served_kept
