use Rattle.std.proofs.Common.{◌≡◌, Some, subst, rules}
use Rattle.spaces.specs.Edits.{Edit, judged, outcome}
use Rattle.spaces.specs.Meant.{meant}
use Rattle.spaces.proofs.Editing.{laws_of, clear_law}
use Rattle.overlays.specs.Tables.{held}
use Rattle.overlays.proofs.table.PatchTable.edit.Goals as goal

pub returns-clause-laws : goal.returns-clause-laws
returns-clause-laws c = laws_of (meant c.args.edit) _ _ _ c.args.self.now.lawful (record { answer = search rules; patches = search rules })

pub returns-clause-fits : goal.returns-clause-fits
returns-clause-fits c first count e =
    let ps = held c.args.self.now in
    let answer : c.replace.result ≡ outcome (judged (Some ps) (meant c.args.edit)) = search rules in
    clear_law first count ps _ c.args.self.now.lawful (subst (λ (x : Edit). c.replace.result ≡ outcome (judged (Some ps) x)) e answer)
