use Rattle.spaces.specs.Meant as edits
use Rattle.patchfiles.specs.declared.record.Record.{Record}
use Rattle.patchfiles.specs.Runs.{Mark}

-- what a record of the program is
abbrev pub meant : Record → Mark
meant r = record { depth = r.depth; edit = edits.meant r.edit }
