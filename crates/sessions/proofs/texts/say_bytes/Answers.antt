use Rattle.std.proofs.Common.{arith}
use Rattle.std.proofs.lemmas.Bool.Decides.{nat_tests}
use Rattle.sessions.proofs.Saying.{spelled_front, spoken_spelled}
use Rattle.sessions.proofs.texts.say_bytes.Goals.{in_default-via-in-Some+else-is_empty, in_default-via-in_default}
use Rattle.sessions.proofs.texts.say_bytes.Goals as goal

pub returns-in_default : goal.returns-in_default
returns-in_default c =
    rw (spoken_spelled c.args.bytes.now c.args.met (λ f e n. elim c.in_default.branch [
      | in_default-via-in-Some+else-is_empty w ↦ grind (arith, nat_tests, w.if-is_empty.ensures, n)
      | in_default-via-in_default w ↦ w.in_default.not-Some f e
    ]))
    (spelled_front c.args.bytes.now c.args.text.now c.spell.new.out c.spell.result c.spell.ensures.is c.told-text c.requires)
