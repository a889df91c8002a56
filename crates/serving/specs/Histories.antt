use Rattle.std.specs.Prelude.{ℕ, zero, suc, Bool, List, [], ◌∷◌, drop}
use Rattle.spaces.specs.Piles.{LawfulPile}
use Rattle.packets.specs.Frames.{framed}
use Rattle.packets.specs.Items.{Heard, unfinished, packet, said}
use Rattle.packets.specs.Hearing as hearing
use Rattle.sessions.specs.States.{State}
use Rattle.sessions.specs.Services.{pile_service}
use Rattle.sessions.specs.Histories.{heard, answered, History}
use Rattle.sessions.specs.Promises.{Kept}
use Rattle.serving.specs.Serving as serving
use Rattle.serving.specs.Serving.{Served, fresh, gdb_service, after_item}

-- The session that is served to GDB, and all that happened to it.

-- what one item adds to a history: it is heard, and a packet is answered
abbrev pub added : Served State → List ℕ → Heard → History → History
added v stream (packet payload) h = answered payload (framed (pile_service.reply v.session payload)) ∷ heard stream ∷ h
added v stream other h = heard stream ∷ h

-- and what at most so many items of a stream add
abbrev pub go_on : Bool → Served State → List ℕ → History → (Served State → List ℕ → History → History) → Heard → History
go_on known v stream h more unfinished = h
go_on known v stream h more item = more (after_item (gdb_service known) v item) (drop (said item).used stream) (added v stream item h)

abbrev pub history : Bool → ℕ → Served State → List ℕ → History → History
history known zero v stream h = h
history known (suc n) v stream h = go_on known v stream h (history known n) (hearing.heard stream)

-- it keeps its promise, from a new one on and however many items of whatever stream have been served
abbrev pub EveryServedSessionIsKept : Type 0
EveryServedSessionIsKept = (p : LawfulPile) (known : Bool) (stream : List ℕ) (n : ℕ)
    → Kept p.pile (history known n (fresh p.pile) stream []) (serving.serving (gdb_service known) n (fresh p.pile) stream).served.session
