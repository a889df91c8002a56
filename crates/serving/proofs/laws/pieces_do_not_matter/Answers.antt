use Rattle.serving.proofs.Serving.{pieces}
use Rattle.serving.proofs.laws.pieces_do_not_matter.Goals as goal

pub returns : goal.returns
returns c service v piece more = pieces service v piece more
