use Rattle.spaces.proofs.Editing.{clear_law}
use Rattle.overlays.proofs.table.PatchTable.clear.Goals as goal

pub returns-clause-fits : goal.returns-clause-fits
returns-clause-fits c = clear_law c.args.first c.args.count _ _ c.args.self.now.lawful c.edit.ensures.edits.answer
