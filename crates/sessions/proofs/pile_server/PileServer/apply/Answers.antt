use Rattle.std.proofs.Common.{rules}
use Rattle.sessions.proofs.Calls.{keeps_applied}
use Rattle.sessions.proofs.pile_server.PileServer.apply.Goals as goal

pub returns-clause-kept : goal.returns-clause-kept
returns-clause-kept g c = keeps_applied _ _ c.args.file.now c.apply.result (search rules)
