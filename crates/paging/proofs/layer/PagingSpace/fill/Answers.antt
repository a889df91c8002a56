use Rattle.std.proofs.Common.{arith}
use Rattle.spaces.proofs.Filling.{stopped, part_filled, part_stopped}
use Rattle.paging.proofs.Pages.{on_page, no_page, page_filled}
use Rattle.paging.proofs.layer.PagingSpace.fill.Goals as goal

pub returns-in-Err : goal.returns-in-Err
returns-in-Err g c = stopped _ _ _ _ _ c.loop-count.invariant _ (omega arith) (no_page _ _ _ _ _ c.in-Err.ensures)

pub nonzero_rem-left : goal.nonzero_rem-left
nonzero_rem-left g c = let left = (on_page _ _ _ g.met.P.Scheme.sound _ _ c.in-Ok.ensures).left in omega arith

pub overflow_sub-left : goal.overflow_sub-left
overflow_sub-left g c = let left = (on_page _ _ _ g.met.P.Scheme.sound _ _ c.in-Ok.ensures).left in omega arith

pub loop-count-smaller : goal.loop-count-smaller
loop-count-smaller g c = let left = (on_page _ _ _ g.met.P.Scheme.sound _ _ c.in-Ok.ensures).left in omega arith

pub returns-then-count-end : goal.returns-then-count-end
returns-then-count-end g c =
    let page = page_filled _ _ _ _ _ (on_page _ _ _ g.met.P.Scheme.sound _ _ c.in-Ok.ensures) _ _ _ (omega arith) (omega arith) c.fill_below-placed.ensures in
    part_stopped _ _ _ _ _ _ _ _ c.loop-count.invariant (omega arith) page (omega arith)

pub loop-count-preserved : goal.loop-count-preserved
loop-count-preserved g c =
    let page = page_filled _ _ _ _ _ (on_page _ _ _ g.met.P.Scheme.sound _ _ c.in-Ok.ensures) _ _ _ (omega arith) (omega arith) c.fill_below-placed.ensures in
    part_filled _ _ _ _ _ _ _ _ c.loop-count.invariant (omega arith) page
