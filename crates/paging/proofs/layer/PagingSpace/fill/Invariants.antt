use Rattle.std.proofs.Common.{◌-◌}
use Rattle.spaces.specs.Piles.{shown}
use Rattle.spaces.proofs.Filling.{Filled}
use Rattle.paging.specs.Layers.{paging_on}
use Rattle.paging.proofs.layer.PagingSpace.fill.Given as goal

abbrev pub invariant-loop-count : goal.invariant-loop-count
invariant-loop-count g l = Filled (shown (paging_on g.P.Scheme.format l.self.cr3 (g.S.Space.meaning l.self.below))) l.first l.count l.initial.out l.out

abbrev pub decreases-loop-count : goal.decreases-loop-count
decreases-loop-count g l = l.room - l.count
