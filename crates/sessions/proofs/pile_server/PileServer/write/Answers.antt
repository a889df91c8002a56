use Rattle.std.proofs.Common.{◌≡◌, Some, None, Ok, Err, refl, subst, sym, arith}
use Rattle.sessions.specs.declared.refusal.PayloadRefusal.TheVariants.{Edit}
use Rattle.sessions.specs.States.{State}
use Rattle.sessions.specs.Sessions.{state}
use Rattle.sessions.specs.Texts.{BeginsUnlessRefused}
use Rattle.sessions.proofs.Writing.{placed, written_told, written_after}
use Rattle.sessions.proofs.pile_server.PileServer.write.Goals as goal

pub returns-in_err-set : goal.returns-in_err-set
returns-in_err-set g c =
    let s : State = state g.S.Space.meaning c.args.self.now in
    let few = placed _ _ _ _ c.bytes-count.ensures in
    let refused : c.from_residual.result ≡ Err (Edit c.in_err-set.field-0.0) = grind (arith, c.from_residual.ensures) in
    rw refused (record {
      text = written_told s c.args.first c.args.pairs.now _ _ _ c.requires few c.set.ensures (Some c.in_err-set.field-0.0) c.in_err-set.was;
      session = written_after s c.args.first c.args.pairs.now _ _ _ c.requires few c.set.ensures;
    })

pub returns : goal.returns
returns g c =
    let s : State = state g.S.Space.meaning c.args.self.now in
    let few = placed _ _ _ _ c.bytes-count.ensures in
    let told = written_told s c.args.first c.args.pairs.now _ _ _ c.requires few c.set.ensures None c.in_ok-set.was in
    record {
      text = subst (λ w. BeginsUnlessRefused w c.say.new.text (Ok c.say.result)) (sym told) (refl, c.say.ensures);
      session = written_after s c.args.first c.args.pairs.now _ _ _ c.requires few c.set.ensures;
    }
