use Rattle.std.proofs.Common.{slice_get, sym, ap, ◌∙◌}
use Rattle.spaces.specs.Patches.{Patches}
use Rattle.overlays.specs.Tables.{held}
use Rattle.overlays.proofs.Parting.{byte_at, first_from}
use Rattle.overlays.proofs.table.PatchTable.lookup.Goals as goal

pub returns-in_err-patch : goal.returns-in_err-patch
returns-in_err-patch c =
    c.from_residual.ensures ∙ ap (byte_at c.args.at) (c.in_err-patch.ensures.value ∙ ap (λ (ps : Patches). slice_get ps 0) c.parted.ensures.from)
    ∙ sym (first_from 0 c.args.at (held c.args.self.now) c.args.self.now.lawful.ascending)

pub returns : goal.returns
returns c =
    c.then_some.ensures ∙ ap (byte_at c.args.at) (c.in_ok-patch.ensures.value ∙ ap (λ (ps : Patches). slice_get ps 0) c.parted.ensures.from)
    ∙ sym (first_from 0 c.args.at (held c.args.self.now) c.args.self.now.lawful.ascending)
