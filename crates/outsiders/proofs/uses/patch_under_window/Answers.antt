use Rattle.outsiders.proofs.Windows.{unseen}
use Rattle.outsiders.proofs.uses.patch_under_window.Goals as goal

pub returns : goal.returns
returns g c = let w = c.args.window.now in record {
  watches = c.watched_set.ensures;
  unseen = λ h. c.watched_set.ensures.kept (unseen w.start w.length (g.S.Space.meaning w.below) c.args.first c.args.bytes.now c.args.at h);
}
