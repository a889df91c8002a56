use Rattle.std.proofs.Common.{refl}
use Rattle.sessions.proofs.Calls.{keeps_heard}
use Rattle.sessions.proofs.Hearing.{no_packet}
use Rattle.sessions.proofs.talk.Waiting.hear.Goals as goal

pub returns-in-Packet-clause-kept : goal.returns-in-Packet-clause-kept
returns-in-Packet-clause-kept c s = keeps_heard s s c.args.received.now refl

pub returns-in_default : goal.returns-in_default
returns-in_default c = record {
  is = record { item = c.hear.ensures.is; owes_one = no_packet c.hear.result _ c.hear.ensures.is c.in_default.not-Packet };
  kept = λ s. keeps_heard s s c.args.received.now refl;
}
