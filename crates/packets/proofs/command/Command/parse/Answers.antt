use Rattle.std.proofs.Common.{sym, subst}
use Rattle.packets.specs.Forms.{Parses}
use Rattle.packets.proofs.Parsing.{parses}
use Rattle.packets.proofs.command.Command.parse.Goals as goal

pub returns-clause-in_words : goal.returns-clause-in_words
returns-clause-in_words c = subst (Parses c.args.payload.now) (sym c.asked.ensures) (parses c.args.payload.now)
