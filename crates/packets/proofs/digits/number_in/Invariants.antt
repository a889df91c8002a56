use Rattle.std.proofs.Common.{◌≡◌, ◌*◌, ◌^◌, ◌<◌, drop}
use Rattle.packets.specs.Digits.{spelled}
use Rattle.packets.proofs.digits.number_in.Given as goal

-- what is left is spelled behind the digits read
abbrev pub invariant-loop-c : goal.invariant-loop-c
invariant-loop-c l = record {
  left : spelled l.number (drop l.c-index l.digits) ≡ spelled 0 l.fn.digits;
  small : l.number < 2 ^ (4 * l.c-index);
}
