use Rattle.paging.proofs.Showing.{edits_below}
use Rattle.paging.proofs.layer.Paging.patch_below.Goals as goal

pub returns : goal.returns
returns g c = let s = c.args.self.now in edits_below g.P.Scheme.format s.cr3 (g.S.Space.meaning s.below) _ _ c.args.at _ c.watched_set.ensures
