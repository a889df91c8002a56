use Rattle.spaces.proofs.Overlaid.{shows_patches}
use Rattle.spaces.proofs.laws.every_overlay_shows_its_patches.Goals as goal

pub returns : goal.returns
returns c = shows_patches
