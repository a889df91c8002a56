use Rattle.std.proofs.Common.{◌-◌, take, ap, ◌∙◌, arith, length-take}
use Rattle.serving.proofs.Reading.{moved}
use Rattle.serving.proofs.received.Received.release.Goals as goal

pub returns : goal.returns
returns c =
    let old = c.args.self.now in
    let l = length-take old.count old.bytes in
    ap (take (old.count - c.args.used)) c.copy_within.ensures.after ∙ moved old.bytes c.args.used old.count (omega arith) (omega arith)
