use Rattle.std.proofs.Common.{drop}
use Rattle.overlays.specs.Tables.{held}
use Rattle.overlays.proofs.Laying.{Laying}
use Rattle.overlays.proofs.table.PatchTable.lay_over.Given as goal

abbrev pub invariant-loop-patch : goal.invariant-loop-patch
invariant-loop-patch l = Laying (held l.self) l.first l.initial.bytes l.bytes (drop l.patch-index l.from)
