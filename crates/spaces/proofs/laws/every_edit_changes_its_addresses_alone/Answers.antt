use Rattle.spaces.proofs.PileEdits.{pile_edit_laws}
use Rattle.spaces.proofs.laws.every_edit_changes_its_addresses_alone.Goals as goal

pub returns : goal.returns
returns c = pile_edit_laws
