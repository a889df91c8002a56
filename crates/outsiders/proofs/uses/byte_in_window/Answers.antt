use Rattle.outsiders.proofs.Windows.{blames}
use Rattle.outsiders.proofs.uses.byte_in_window.Goals as goal

pub returns : goal.returns
returns g c = let w = c.args.window.now in blames w.start w.length (g.S.Space.meaning w.below) c.args.at c.locate.result c.locate.ensures
