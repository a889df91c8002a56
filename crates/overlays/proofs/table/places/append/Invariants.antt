use Rattle.std.proofs.Common.{◌≡◌, ◌++◌, take}
use Rattle.spaces.specs.Patches.{laid}
use Rattle.overlays.proofs.table.places.append.Given as goal

abbrev pub invariant-loop-i : goal.invariant-loop-i
invariant-loop-i l = l.patches.items ≡ l.initial.patches.items ++ laid l.first (take l.i l.bytes)
