use Rattle.std.proofs.Common.{◌≡◌}
use Rattle.serving.specs.Servers.{served, knows_pc, service, pending}
use Rattle.serving.specs.Reading.{ServedSoFar}
use Rattle.serving.proofs.server.Server.run.Given as goal

abbrev pub invariant-loop : goal.invariant-loop
invariant-loop g l = record {
  keeps : ServedSoFar (service l.fn.self) (served g.S.Space.meaning l.fn.self) (g.R.Read.remaining l.fn.input) (g.R.Read.remaining l.input) (g.W.Write.contents l.fn.output) (g.W.Write.contents l.output) (pending l.received) (served g.S.Space.meaning l.self);
  same : knows_pc l.self ≡ knows_pc l.fn.self;
}
