use Rattle.std.proofs.Common.{◌≡◌, length}
use Rattle.std.specs.Io.KnownBytes.{Keeps}
use Rattle.serving.specs.Servers.{pending}
use Rattle.serving.proofs.received.Received.read.Given as goal

abbrev pub invariant-loop : goal.invariant-loop
invariant-loop g l = record {
  none_read : Keeps (g.R.Read.remaining l.fn.input) (g.R.Read.remaining l.input);
  same : pending l.self ≡ pending l.fn.self;
  count : l.self.count ≡ l.fn.self.count;
  long : length l.self.bytes ≡ 4100;
}
