use Rattle.std.proofs.Common.{◌∙◌, rules}
use Rattle.serving.proofs.Running.{room, piece_served, breaks_within}
use Rattle.serving.proofs.server.Server.run.Goals as goal

pub read-requires : goal.read-requires
read-requires g c = room _ _ _ _ _ _ _ _ c.loop.invariant.keeps

pub loop-preserved : goal.loop-preserved
loop-preserved g c =
    let same = c.loop.invariant.same in
    let r = rw c.in_ok-read.was at c.read.ensures.ok in
    let l = rw (c.in_ok-used.was, same, c.bytes.ensures) at c.listen.ensures.ok in
    record {
      keeps = rw c.release.ensures (piece_served _ _ _ _ _ _ _ _ c.loop.invariant.keeps _ _ _ _ _ _ r l);
      same = c.listen.ensures.pc ∙ same;
    }

pub returns-in_err-used-clause-err : goal.returns-in_err-used-clause-err
returns-in_err-used-clause-err g c =
    let r = rw c.in_ok-read.was at c.read.ensures.ok in
    let e = rw (c.in_err-used.was, c.loop.invariant.same, c.bytes.ensures) at c.listen.ensures.err in
    let b = breaks_within _ _ _ _ _ _ _ _ c.loop.invariant.keeps _ _ _ _ r e in
    search rules
