use Rattle.std.proofs.Common.{sym, ◌∙◌}
use Rattle.packets.proofs.Reading.{number_either}
use Rattle.packets.proofs.digits.number.Goals as goal

pub returns-clause-either_case : goal.returns-clause-either_case
returns-clause-either_case c = c.number_in.ensures ∙ sym (number_either c.args.digits.now)
