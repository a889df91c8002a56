use Rattle.std.proofs.Common.{rules, ◌+◌, length, arith}
use Rattle.packets.proofs.Written.{frames}
use Rattle.packets.proofs.Hearings.{front_heard}
use Rattle.packets.proofs.framing.frame.Goals as goal

pub returns : goal.returns
returns c =
    let f = frames c.args.payload.now c.args.reply.now (search rules) (omega arith) c.copy_summed-sum.new.place c.copy_from_slice.new.self (search rules) (search rules) in
    record { is = f; heard_back = front_heard c.args.payload.now c.args.reply.now _ (length c.args.payload.now + 1 + 3) f }
