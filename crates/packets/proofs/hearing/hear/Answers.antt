use Rattle.std.proofs.Common.{sym, subst, ◌∙◌}
use Rattle.packets.specs.Streams.{Hears}
use Rattle.packets.proofs.Hearings.{hears, heard_near}
use Rattle.packets.proofs.hearing.hear.Goals as goal

pub returns-clause-is : goal.returns-clause-is
returns-clause-is c = c.heard.ensures ∙ heard_near c.args.received.now c.min.result c.min.ensures

pub returns-clause-in_words : goal.returns-clause-in_words
returns-clause-in_words c = subst (Hears c.args.received.now) (sym (returns-clause-is c)) (hears c.args.received.now)
