use Rattle.std.proofs.Common.{◌<◌, [], map, length, refl, sym, ap, ◌∙◌, arith}
use Rattle.std.proofs.lemmas.List.{length-map, map-set, get_or-map, set-get_or}
use Rattle.replays.specs.declared.call.Slot.{Slot}
use Rattle.replays.specs.declared.call.Outcome.TheVariants.{NotAllowed}
use Rattle.replays.specs.Replays.{call_meant, slot_meant}
use Rattle.replays.proofs.Underway.{played_on, played_out, places_out}
use Rattle.replays.proofs.replaying.play.Goals as goal

pub loop-n-init : goal.loop-n-init
loop-n-init g c = rw c.open-server.ensures.is refl

pub loop-n-preserved : goal.loop-n-preserved
loop-n-preserved g c =
    let blank : Slot = record { outcome = NotAllowed; reply = [] } in
    let found = c.in-Some.ensures.lookup in
    let in_places : c.loop-n.n < length c.loop-n.slots = omega (arith, c.loop-n.auto.slots, c.loop-n-test.true) in
    rw (map-set slot_meant c.loop-n.slots c.loop-n.n c.step-stage.new.slot)
    (played_on _ _ _ _ (map slot_meant c.loop-n.slots) _ _ c.loop-n.n _ _ _
    (rw (length-map c.args.calls.now call_meant) (found.3.0)) (rw (length-map c.loop-n.slots slot_meant) in_places)
    (get_or-map call_meant c.args.calls.now c.loop-n.n c.in-Some.call.now _ found.3.0 ∙ ap call_meant (sym found.1))
    (get_or-map slot_meant c.loop-n.slots c.loop-n.n blank _ in_places)
    c.step-stage.ensures c.loop-n.invariant)

pub returns-in_default : goal.returns-in_default
returns-in_default g c =
    let none = c.in_default.ensures.lookup in
    let done = played_out _ _ _ _ _ _ c.loop-n.n (rw (length-map c.args.calls.now call_meant) none.3) c.loop-n.invariant in
    rw set-get_or (record { places = sym (ap (λ r. r.0) done); stand = sym (ap (λ r. r.1) done) })

pub returns : goal.returns
returns g c =
    let done = places_out _ _ _ _ _ _ c.loop-n.n (rw (length-map c.loop-n.slots slot_meant) (omega (arith, c.loop-n.auto.slots, c.loop-n-test.false))) c.loop-n.invariant in
    record { places = sym (ap (λ r. r.0) done); stand = sym (ap (λ r. r.1) done) }
