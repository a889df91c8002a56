use Rattle.std.proofs.Common.{length, ap, ◌∙◌, arith}
use Rattle.spaces.specs.Patches.{ascends}
use Rattle.spaces.proofs.Ascents.{ascending_replaced}
use Rattle.overlays.specs.Tables.{held}
use Rattle.overlays.proofs.Replacing.{replaced_by, replaced_length, refuses, replaces}
use Rattle.overlays.proofs.table.PatchTable.replace.Goals as goal

pub returns-then-bytes-kept : goal.returns-then-bytes-kept
returns-then-bytes-kept c = refuses (held c.args.self.now) _ _ _ _ c.args.bytes.now c.args.self.now.lawful.ascending c.around-low.ensures (omega (arith, c.len-count.ensures.count))

pub invariant_of-self : goal.invariant_of-self
invariant_of-self c =
    let ps = held c.args.self.now in
    let asc = c.args.self.now.lawful.ascending in
    let after = replaced_by ps _ _ _ _ c.args.bytes.now asc c.around-low.ensures _ c.splice_in.ensures in
    record {
      lawful = record {
        ascending = ap (ascends 0) after ∙ ascending_replaced c.args.first c.args.end c.args.bytes.now ps c.requires.fits asc;
        few = omega (arith, ap length after, replaced_length ps _ _ _ _ c.args.bytes.now asc c.around-low.ensures, c.len-count.ensures.count);
      };
    }

pub returns : goal.returns
returns c = replaces (held c.args.self.now) _ _ _ _ c.args.bytes.now c.args.self.now.lawful.ascending c.around-low.ensures (omega (arith, c.len-count.ensures.count)) _ c.splice_in.ensures
