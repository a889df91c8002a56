use Rattle.std.specs.Prelude.{ℕ, List, Result}
use Rattle.patchfiles.specs.declared.stopped.Stopped.{Stopped}
use Rattle.patchfiles.specs.Files as files
use Rattle.sessions.specs.States.{State}
use Rattle.sessions.specs.Answers as answers

-- what a server does in each of its states: what it replies to a payload, what applying a file answers, and the state after each
pub record Service (S : Type 0) : Type 0 where
  pub reply : S → List ℕ → List ℕ
  pub after : S → List ℕ → S
  pub outcome : S → List ℕ → Result ℕ Stopped
  pub applied_to : S → List ℕ → S

-- of the server of a pile
abbrev pub pile_service : Service State
pile_service = record {
  reply = answers.reply;
  after = answers.after;
  outcome = λ s file. files.answer_by (files.asked file) s.pile;
  applied_to = answers.applied_to;
}
