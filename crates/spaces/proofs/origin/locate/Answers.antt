use Rattle.spaces.specs.Piles.{LawfulPile}
use Rattle.spaces.proofs.Arising.{arose}
use Rattle.spaces.proofs.origin.locate.Goals as goal

pub returns : goal.returns
returns g c =
    let p : LawfulPile = record { pile = g.S.Space.meaning c.args.space.now; lawful = g.met.S.Space.lawful c.args.space.now } in
    record { answer = c.byte.ensures; arose = λ f q n. arose p n c.args.at f cc }
