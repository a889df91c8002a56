use Rattle.std.proofs.Common.{◌∙◌, arith, rules}
use Rattle.std.proofs.lemmas.List.{take_rest}
use Rattle.serving.proofs.Listening.{more, stops, fails}
use Rattle.serving.proofs.server.Server.turns.Goals as goal

pub returns-then-n-eq0-clause-ok : goal.returns-then-n-eq0-clause-ok
returns-then-n-eq0-clause-ok g c =
    let t = rw (c.in_ok-n.was, c.if-n-eq0.true, take_rest, c.items.invariant.same) at c.turn.ensures.ok in
    stops _ _ _ _ _ _ _ c.items.invariant.so_far _ _ t

pub items-preserved : goal.items-preserved
items-preserved g c =
    let t = rw (c.in_ok-n.was, take_rest, c.items.invariant.same) at c.turn.ensures.ok in
    record {
      so_far = more _ _ _ _ _ _ _ c.items.invariant.so_far _ _ _ t (omega arith);
      same = c.turn.ensures.pc ∙ c.items.invariant.same;
    }

pub returns-in_err-n-clause-err : goal.returns-in_err-n-clause-err
returns-in_err-n-clause-err g c =
    let e = fails _ _ _ _ _ _ _ c.items.invariant.so_far _ (rw (take_rest, c.items.invariant.same) at c.turn.ensures.server) in
    search rules
