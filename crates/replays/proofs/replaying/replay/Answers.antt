use Rattle.replays.proofs.Transcripts.{kept_all_along}
use Rattle.replays.proofs.replaying.replay.Goals as goal

pub returns-clause-kept : goal.returns-clause-kept
returns-clause-kept g c = kept_all_along (g.S.Space.meaning c.args.space) (g.met.S.Space.lawful c.args.space) _ _ _ c.play.ensures.places
