use Rattle.std.proofs.Common.{◌+◌, arith}
use Rattle.std.proofs.lemmas.List.{take_rest}
use Rattle.std.proofs.lemmas.Grind.{common_steps}
use Rattle.packets.proofs.Splitting.{split_at_place}
use Rattle.packets.proofs.split.split_once.Goals as goal

pub returns-in_err-place : goal.returns-in_err-place
returns-in_err-place c = grind (arith, common_steps, split_at_place c.args.mark c.args.bytes.now)

pub returns : goal.returns
returns c = grind (arith, common_steps, split_at_place c.args.mark c.args.bytes.now, take_rest c.args.bytes.now (c.in_ok-place.place + 1))
