use Rattle.std.proofs.Common.{◌≡◌, ◌-◌, ◌≤◌, length, take}
use Rattle.overlays.proofs.table.places.lengthen.Given as goal

abbrev pub invariant-loop-patches : goal.invariant-loop-patches
invariant-loop-patches l = record {
  kept : take (length l.initial.patches.items) l.patches.items ≡ l.initial.patches.items;
  more : length l.initial.patches.items ≤ length l.patches.items;
}

abbrev pub decreases-loop-patches : goal.decreases-loop-patches
decreases-loop-patches l = l.count - length l.patches.items
