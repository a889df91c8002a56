use Rattle.std.proofs.Common.{◌≡◌, List, Ok}
use Rattle.patchfiles.specs.Runs.{Mark}
use Rattle.patchfiles.specs.Files.{marks_of}
use Rattle.patchfiles.proofs.Running.{Underway}
use Rattle.patchfiles.proofs.applying.run.Given as goal

abbrev pub invariant-loop-index : goal.invariant-loop-index
invariant-loop-index g l = (marks : List Mark) → marks_of 0 l.records ≡ Ok marks → Underway l.records marks (g.S.Space.meaning l.fn.space) (g.S.Space.meaning l.space) l.index
