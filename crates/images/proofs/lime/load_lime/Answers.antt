use Rattle.images.proofs.Showing.{lime_law}
use Rattle.images.proofs.lime.load_lime.Goals as goal

pub returns : goal.returns
returns c = record { loads = c.load.ensures; law = lime_law _ _ _ _ _ c.load.ensures }
