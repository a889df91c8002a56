use Rattle.std.proofs.Common.{ltb, ap, ◌∙◌, rules}
use Rattle.std.proofs.lemmas.List.Sorted.{IsPartitionedBy-ltb, IsPartitionPoint-from_clause}
use Rattle.spaces.specs.declared.patch.Patch.{Patch}
use Rattle.spaces.specs.Patches.{ascends, before, from}
use Rattle.overlays.proofs.Parting.{rising, parts}
use Rattle.overlays.proofs.table.PatchTable.parted.Goals as goal

pub returns : goal.returns
returns c =
    let same = c.as_slice-patches.ensures.value in
    let sorted = rising c.as_slice-patches.result.now (ap (ascends 0) same ∙ c.args.self.now.lawful.ascending) in
    let point = IsPartitionPoint-from_clause (λ (p : Patch). ltb p.address c.args.at) _ _ c.partition_point.ensures.partitioned
    (IsPartitionedBy-ltb (λ (p : Patch). p.address) _ c.args.at sorted) (λ a r f' k. search rules) in
    let t = parts c.args.at c.as_slice-patches.result.now c.partition_point.result c.partition_point.ensures.bound point in
    record { before = c.split_at.ensures.front ∙ t.0 ∙ ap (before c.args.at) same; from = c.split_at.ensures.back ∙ t.1 ∙ ap (from c.args.at) same }
