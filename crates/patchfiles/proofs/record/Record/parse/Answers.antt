use Rattle.std.proofs.Common.{arith}
use Rattle.std.proofs.lemmas.Bool.Decides.{nat_tests}
use Rattle.patchfiles.proofs.record.Record.parse.Goals as goal

pub returns-in_default : goal.returns-in_default
returns-in_default c = grind (arith, nat_tests)

pub returns : goal.returns
returns c = grind (arith, nat_tests)
