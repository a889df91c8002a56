use Rattle.std.proofs.Common.{◌≡◌, ◌-◌, length}
use Rattle.serving.specs.Servers.{served, knows_pc, service}
use Rattle.serving.proofs.Listening.{SoFar}
use Rattle.serving.proofs.server.Server.turns.Given as goal

abbrev pub invariant-items : goal.invariant-items
invariant-items g l = record {
  so_far : SoFar (service l.fn.self) (served g.S.Space.meaning l.fn.self) l.received (g.W.Write.contents l.fn.output) (g.W.Write.contents l.output) l.used (served g.S.Space.meaning l.self);
  same : knows_pc l.self ≡ knows_pc l.fn.self;
}

abbrev pub decreases-items : goal.decreases-items
decreases-items g l = length l.initial.received - l.used
