use Rattle.std.proofs.Common.{ℕ, zero, suc, Bool, List, [], refl}
use Rattle.spaces.specs.Piles.{Pile}
use Rattle.packets.specs.Frames.{framed}
use Rattle.packets.specs.Items.{Heard, unfinished, resend, ignored, wrong_sum, no_end, packet}
use Rattle.packets.specs.Hearing as hearing
use Rattle.sessions.specs.States.{State}
use Rattle.sessions.specs.Answers.{reply}
use Rattle.sessions.specs.Histories.{heard, answered, History}
use Rattle.sessions.specs.Promises.{Kept}
use Rattle.sessions.proofs.Keeping.{kept_new, kept_more}
use Rattle.serving.specs.Serving.{Served, fresh, gdb_service, after_item, begun, serving}
use Rattle.serving.specs.Histories.{added, go_on, history, EveryServedSessionIsKept}

module _ (p : Pile) (known : Bool) where
  kept_item : (v : Served State) (stream : List ℕ) (item : Heard) (h : History) → Kept p h v.session → Kept p (added v stream item h) (after_item (gdb_service known) v item).session
  kept_item v stream unfinished h k = kept_more p h v.session (heard stream) k tt
  kept_item v stream resend h k = kept_more p h v.session (heard stream) k tt
  kept_item v stream ignored h k = kept_more p h v.session (heard stream) k tt
  kept_item v stream (wrong_sum used) h k = kept_more p h v.session (heard stream) k tt
  kept_item v stream no_end h k = kept_more p h v.session (heard stream) k tt
  kept_item v stream (packet payload) h k = kept_more p _ v.session (answered payload (framed (reply v.session payload))) (kept_more p h v.session (heard stream) k tt) refl

  kept_on : (n : ℕ) (v : Served State) (stream : List ℕ) (h : History) → Kept p h v.session → Kept p (history known n v stream h) (serving (gdb_service known) n v stream).served.session
  kept_on zero v stream h k = k
  kept_on (suc n) v stream h k = step (hearing.heard stream) (λ w rest g. kept_on n w rest g)
    where
      step : (item : Heard) → ((w : Served State) (rest : List ℕ) (g : History) → Kept p g w.session → Kept p (history known n w rest g) (serving (gdb_service known) n w rest).served.session)
          → Kept p (go_on known v stream h (history known n) item) (begun (gdb_service known) v stream (serving (gdb_service known) n) item).served.session
      step unfinished more = k
      step resend more = more v _ _ (kept_item v stream resend h k)
      step ignored more = more v _ _ (kept_item v stream ignored h k)
      step (wrong_sum used) more = more v _ _ (kept_item v stream (wrong_sum used) h k)
      step no_end more = more v _ _ (kept_item v stream no_end h k)
      step (packet payload) more = more _ _ _ (kept_item v stream (packet payload) h k)

pub served_kept : EveryServedSessionIsKept
served_kept p known stream n = kept_on p.pile known n (fresh p.pile) stream [] (kept_new p.pile p.lawful)
