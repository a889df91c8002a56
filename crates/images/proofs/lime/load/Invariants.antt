use Rattle.std.proofs.Common.{◌-◌, length}
use Rattle.images.specs.Kinds.{lime_bounds}
use Rattle.images.specs.Lime.{lime_header}
use Rattle.images.proofs.Loading.{Underway}
use Rattle.images.proofs.lime.load.Given as goal

abbrev pub invariant-loop-place : goal.invariant-loop-place
invariant-loop-place l = Underway lime_bounds (lime_header l.file) 0 l.initial.table l.table l.place

abbrev pub decreases-loop-place : goal.decreases-loop-place
decreases-loop-place l = length l.file - l.place
