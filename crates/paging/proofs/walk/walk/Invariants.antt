use Rattle.spaces.specs.Piles.{shown}
use Rattle.paging.proofs.Descents.{Come}
use Rattle.paging.proofs.walk.walk.Given as goal

abbrev pub invariant-loop-level : goal.invariant-loop-level
invariant-loop-level g l = Come g.P.Scheme.format (shown (g.S.Space.meaning l.below)) l.cr3 l.at l.level l.table
