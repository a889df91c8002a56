use Rattle.sessions.proofs.Ending.{ends}
use Rattle.sessions.proofs.pile_server.PileServer.reply.Goals as goal

pub carry_out-requires : goal.carry_out-requires
carry_out-requires g c = ends c.args.payload.now _ c.in_ok-command.ensures.in_words.fits
