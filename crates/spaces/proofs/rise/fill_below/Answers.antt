use Rattle.std.proofs.Common.{rules}
use Rattle.spaces.specs.Piles.{shown}
use Rattle.spaces.proofs.Filling.{filled_raised}
use Rattle.spaces.proofs.rise.fill_below.Goals as goal

pub returns : goal.returns
returns g c = filled_raised (shown (g.S.Space.meaning c.args.below.now)) _ _ _ _ _ (search rules) c.fill-count.ensures
