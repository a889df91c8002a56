use Rattle.sessions.proofs.Calls.{keeps_answered}
use Rattle.sessions.proofs.pile_server.PileServer.answer.Goals as goal

pub returns-clause-kept : goal.returns-clause-kept
returns-clause-kept g c = keeps_answered _ _ c.args.payload.now c.args.reply.now c.reply_frame-count.new.reply _ c.reply_frame-count.ensures
