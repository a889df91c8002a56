use Rattle.std.proofs.Common.{arith}
use Rattle.overlays.proofs.Laying.{laying_begins, laying_near, laying_more, laying_behind, laying_at, laying_ends}
use Rattle.overlays.proofs.table.PatchTable.lay_over.Goals as goal

pub loop-patch-init : goal.loop-patch-init
loop-patch-init c = rw c.parted.ensures.from (laying_begins _ _ _ c.args.self.now.lawful.ascending)

pub overflow_sub-place : goal.overflow_sub-place
overflow_sub-place c = laying_near _ _ _ _ _ _ (laying_at _ _ _ _ _ _ c.loop-patch-test.true c.loop-patch.invariant)

pub returns-then-place-bytes : goal.returns-then-place-bytes
returns-then-place-bytes c = laying_behind _ _ _ _ _ _ (laying_at _ _ _ _ _ _ c.loop-patch-test.true c.loop-patch.invariant) c.if-place-bytes.true

pub loop-patch-preserved : goal.loop-patch-preserved
loop-patch-preserved c = laying_more _ _ _ _ _ _ (laying_at _ _ _ _ _ _ c.loop-patch-test.true c.loop-patch.invariant) (omega arith)

pub returns : goal.returns
returns c = laying_ends _ _ _ _ c.parted.result.1.now c.loop-patch.patch-index (omega arith) c.loop-patch.invariant
