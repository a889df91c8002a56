use Rattle.spaces.specs.Piles.{shown}
use Rattle.spaces.proofs.Filling.{Filled}
use Rattle.spaces.proofs.space.Space.fill.Given as goal

abbrev pub invariant-loop-n : goal.invariant-loop-n
invariant-loop-n g l = Filled (shown (g.Self.Space.meaning l.self)) l.first l.n l.initial.out l.out
