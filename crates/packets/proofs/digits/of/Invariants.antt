use Rattle.std.proofs.Common.{◌≡◌, ◌++◌, length, drop}
use Rattle.packets.specs.Digits.{digits}
use Rattle.packets.proofs.digits.of.Given as goal

-- the digits of what is left stand before those written
abbrev pub invariant-loop-n : goal.invariant-loop-n
invariant-loop-n g l = record {
  long : length l.digits ≡ g.row.N;
  so_far : digits g.row.N l.value ≡ digits l.n l.rest ++ drop l.n l.digits;
}
