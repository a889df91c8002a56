use Rattle.sessions.proofs.Keeping.{kept_new}
use Rattle.sessions.proofs.pile_server.open.Goals as goal

pub returns-clause-kept : goal.returns-clause-kept
returns-clause-kept g c = kept_new (g.S.Space.meaning c.args.space) (g.met.S.Space.lawful c.args.space)
