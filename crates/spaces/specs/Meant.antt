use Rattle.spaces.specs.declared.edit.Edit as declared
use Rattle.spaces.specs.declared.edit.Edit.TheVariants.{Set, Clear}
use Rattle.spaces.specs.Edits.{Edit, setting, clearing}

-- what an edit of the program is
abbrev pub meant : declared.Edit → Edit
meant (Set first bytes) = setting first bytes.now
meant (Clear first count) = clearing first count
