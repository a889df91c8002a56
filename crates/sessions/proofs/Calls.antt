use Rattle.std.proofs.Common.{◌≡◌, ℕ, List, take, drop, Result, sym, take_at}
use Rattle.packets.specs.Frames.{framed}
use Rattle.patchfiles.specs.declared.stopped.Stopped.{Stopped}
use Rattle.sessions.specs.States.{State}
use Rattle.sessions.specs.Answers.{reply, Answers, AppliesTo}
use Rattle.sessions.specs.Histories.{Event, heard, answered, applied}
use Rattle.sessions.specs.Promises.{Keeps}
use Rattle.sessions.proofs.Keeping.{stepped, Right, kept_more}

-- Each call is a step of a session, and so keeps the promise.

step_keeps : (s t : State) (e : Event) → Right s e → t ≡ stepped s e → Keeps s e t
step_keeps s t e right q p h k = rw q (kept_more p h s e k right)

pub keeps_heard : (s t : State) (received : List ℕ) → t ≡ s → Keeps s (heard received) t
keeps_heard s t received q = step_keeps s t (heard received) tt q

pub keeps_answered : (s t : State) (payload old new : List ℕ) (n : ℕ) → Answers s payload old new n t → Keeps s (answered payload (take n new)) t
keeps_answered s t payload old new n a = step_keeps s t (answered payload (take n new)) (rw a.buffer_is (take_at (framed (reply s payload)) (drop n old) n (sym a.how_many))) a.session

pub keeps_applied : (s t : State) (file : List ℕ) (r : Result ℕ Stopped) → AppliesTo s file r t → Keeps s (applied file r) t
keeps_applied s t file r a = step_keeps s t (applied file r) tt a.session
