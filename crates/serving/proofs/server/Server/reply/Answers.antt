use Rattle.serving.proofs.Answering.{as_replied, as_known}
use Rattle.serving.proofs.server.Server.reply.Goals as goal

pub returns-then-known_pc : goal.returns-then-known_pc
returns-then-known_pc g c = rw c.if-known_pc.true (as_known _ _ c.args.payload.now _ _ _ _ _ c.answer-count.ensures.is c.answer-count.array_long c.with_known_pc.ensures.is)

pub returns-else-known_pc : goal.returns-else-known_pc
returns-else-known_pc g c = rw c.if-known_pc.false (as_replied _ _ c.args.payload.now _ _ _ c.answer-count.ensures.is c.answer-count.array_long)
