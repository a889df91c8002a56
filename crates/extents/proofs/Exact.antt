use Rattle.std.proofs.Common.{max, Decides, arith}
use Rattle.std.proofs.lemmas.Grind.{common_steps}
use Rattle.extents.specs.Bounds.{Bounds, Overlap, overlaps}

-- The test is true exactly where what it tests for holds.

pub overlaps_exact : (x y : Bounds) → Decides (overlaps x y) (Overlap x y)
overlaps_exact x y = (
  λ t. record { address = max x.first y.first; one = grind (arith, common_steps); other = grind (arith, common_steps) },
  λ o. grind (arith, common_steps),
)
