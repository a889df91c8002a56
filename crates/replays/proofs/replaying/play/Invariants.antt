use Rattle.std.proofs.Common.{map}
use Rattle.sessions.specs.Services.{pile_service}
use Rattle.replays.specs.Replays.{stand, call_meant, slot_meant, begun}
use Rattle.replays.proofs.Underway.{Underway}
use Rattle.replays.proofs.replaying.play.Given as goal

abbrev pub invariant-loop-n : goal.invariant-loop-n
invariant-loop-n g l = Underway pile_service (begun (g.S.Space.meaning l.fn.space)) (map call_meant l.fn.calls) (map slot_meant l.fn.slots) (map slot_meant l.slots) (stand g.S.Space.meaning l.stage l.server) l.n
