use Rattle.std.proofs.Common.{length, ap, ◌∙◌, arith}
use Rattle.spaces.specs.Patches.{laid}
use Rattle.overlays.proofs.Splicing.{trimmed}
use Rattle.overlays.proofs.table.places.splice_in.Goals as goal

pub returns : goal.returns
returns c =
    let same = c.as_mut_slice.ensures.value in
    c.truncate-2.ensures.items
    ∙ trimmed _ _ c.args.low c.args.high c.args.patches.now.items (laid c.args.first c.args.bytes.now) _ _ _ c.len-count.ensures.value same c.lengthen.ensures.kept (omega (arith, ap length same)) c.splice-after.ensures.after
