use Rattle.std.proofs.Common.{[], ◌∷◌, arith}
use Rattle.spaces.specs.Piles.{LawfulPile}
use Rattle.spaces.specs.Edits.{setting}
use Rattle.spaces.proofs.PileEdits.{pile_edit_laws}
use Rattle.spaces.proofs.OffTrail.{kept_off_trail}
use Rattle.spaces.proofs.watch.watched_set.Goals as goal

pub returns : goal.returns
returns g c =
    let p : LawfulPile = record { pile = g.S.Space.meaning c.args.space.now; lawful = g.met.S.Space.lawful c.args.space.now } in
    let e = setting c.args.first c.args.bytes.now in
    record {
      edits = c.set-outcome.ensures;
      laws = rw (c.set-outcome.ensures.answer, c.set-outcome.ensures.pile) (pile_edit_laws p c.args.depth e);
      before = c.byte-before.ensures;
      after = c.byte-after.ensures;
      kept = λ h. let q = (kept_off_trail p c.args.depth e (c.args.at ∷ []) h).answer in grind arith;
    }
