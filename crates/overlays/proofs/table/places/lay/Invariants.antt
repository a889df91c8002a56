use Rattle.std.proofs.Common.{◌≡◌, take}
use Rattle.spaces.specs.Patches.{laid}
use Rattle.overlays.proofs.table.places.lay.Given as goal

abbrev pub invariant-loop-i : goal.invariant-loop-i
invariant-loop-i l = take l.i l.out ≡ laid l.first (take l.i l.bytes)
