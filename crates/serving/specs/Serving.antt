use Rattle.std.specs.Prelude.{ℕ, zero, suc, Bool, ◌&&◌, if◌then◌else◌, List, [], ◌∷◌, ◌++◌, length, drop, codes}
use Rattle.spaces.specs.Piles.{Pile}
use Rattle.packets.specs.Frames.{framed}
use Rattle.packets.specs.Items.{Heard, unfinished, resend, ignored, wrong_sum, no_end, packet, said}
use Rattle.packets.specs.Hearing.{heard}
use Rattle.sessions.specs.States as states
use Rattle.sessions.specs.States.{State}
use Rattle.sessions.specs.Services.{Service, pile_service}
use Rattle.serving.specs.Registers.{registers, asks_registers}

-- What is sent to GDB, and what is served to it afterwards, by the service that answers.

-- what is served to GDB: a session, and the frame of the latest reply, [] where there is none yet
pub record Served (S : Type 0) : Type 0 where
  pub session : S
  pub latest : List ℕ

-- a new one over a pile
abbrev pub fresh : Pile → Served State
fresh p = record { session = states.fresh p; latest = [] }

-- what is replied to a payload, where the program counter is made known, or not
abbrev pub replied : Bool → State → List ℕ → List ℕ
replied known s payload = if known && asks_registers payload then registers else pile_service.reply s payload

-- the service of a pile with such replies
abbrev pub gdb_service : Bool → Service State
gdb_service known = record { reply = replied known; after = pile_service.after; outcome = pile_service.outcome; applied_to = pile_service.applied_to }

-- what is sent for an item, by the latest reply
abbrev pub due : Heard → List ℕ → List ℕ
due (packet payload) latest = codes "+" ++ latest
due (wrong_sum used) latest = codes "-"
due resend latest = latest
due ignored latest = []
due no_end latest = []
due unfinished latest = []

-- what is sent for an item, and what is served after it
pub record Turn (S : Type 0) : Type 0 where
  pub sent : List ℕ
  pub served : Served S

-- what is sent for a stream, what is served after it, and what is left of the stream: a frame that is unfinished
pub record Run (S : Type 0) : Type 0 where
  pub sent : List ℕ
  pub served : Served S
  pub left : List ℕ

abbrev pub stopped : {S : Type 0} → Served S → List ℕ → Run S
stopped v stream = record { sent = []; served = v; left = stream }

-- a run before which some bytes are sent
abbrev pub behind : {S : Type 0} → List ℕ → Run S → Run S
behind sent r = record { sent = sent ++ r.sent; served = r.served; left = r.left }

-- a turn, and then a run
abbrev pub then_on : {S : Type 0} → Turn S → (Served S → Run S) → Run S
then_on t run = behind t.sent (run t.served)

module _ {S : Type 0} (service : Service S) where
  abbrev pub answered : Served S → List ℕ → Served S
  answered v payload = record { session = service.after v.session payload; latest = framed (service.reply v.session payload) }

  -- what is served after an item
  abbrev pub after_item : Served S → Heard → Served S
  after_item v (packet payload) = answered v payload
  after_item v other = v

  abbrev pub sends : Served S → Heard → Turn S
  sends v item = record { sent = due item (after_item v item).latest; served = after_item v item }

  -- a stream by the item that it begins with, and by how it goes on
  abbrev pub begun : Served S → List ℕ → (Served S → List ℕ → Run S) → Heard → Run S
  begun v stream run unfinished = stopped v stream
  begun v stream run item = then_on (sends v item) (λ w. run w (drop (said item).used stream))

  -- a stream of which at most so many items are served
  abbrev pub serving : ℕ → Served S → List ℕ → Run S
  serving zero v stream = stopped v stream
  serving (suc n) v stream = begun v stream (serving n) (heard stream)

  -- a stream of which all items are served
  abbrev pub all_served : Served S → List ℕ → Run S
  all_served v stream = serving (length stream) v stream

  -- items one behind the other, and what is left behind them
  abbrev pub in_turn : Served S → List Heard → List ℕ → Run S
  in_turn v [] rest = stopped v rest
  in_turn v (item ∷ items) rest = then_on (sends v item) (λ w. in_turn w items rest)
