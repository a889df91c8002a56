use Rattle.std.proofs.Common.{◌≡◌, ◌*◌, ◌++◌, take, drop}
use Rattle.packets.specs.Digits.{spell}
use Rattle.packets.proofs.digits.spell.Given as goal

-- the digits of the bytes so far stand in front
abbrev pub invariant-loop-n : goal.invariant-loop-n
invariant-loop-n l = l.out ≡ spell (take l.n l.bytes) ++ drop (2 * l.n) l.initial.out
