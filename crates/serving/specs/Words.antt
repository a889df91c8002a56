use Rattle.std.specs.Prelude.{◌≡◌, ℕ, ◌-◌, ◌≤◌, List, ◌++◌, length, take, Option}
use Rattle.std.specs.Io.KnownBytes.{Appends, Consumes, IsAtEnd}
use Rattle.spaces.specs.Piles.{Pile}
use Rattle.packets.specs.Frames.{framed}
use Rattle.packets.specs.Items.{Heard, said}
use Rattle.packets.specs.Hearing.{heard}
use Rattle.packets.specs.Streams.{Runs}
use Rattle.sessions.specs.States.{State}
use Rattle.sessions.specs.Services.{Service}
use Rattle.serving.specs.Serving.{Served, fresh, sends, Run, serving, all_served, behind, in_turn}

-- What calls do, and what holds of every stream. `old` and `new` are what the output holds where it is known, `before` and
-- `after` what the input has left where that is known.

module _ {S : Type 0} (service : Service S) where
  -- a payload is answered: the frame that is sent is in front of the buffer, and the session is as after it
  pub record Replies (s : S) (payload buffer : List ℕ) (n : ℕ) (t : S) : Type 0 where
    pub front : take n buffer ≡ framed (service.reply s payload)
    pub fits : n ≤ 4100
    pub session : t ≡ service.after s payload

  -- the first item of the bytes received is served, which uses so many
  pub record Turns (v : Served S) (received : List ℕ) (old new : Option (List ℕ)) (used : ℕ) (w : Served S) : Type 0 where
    pub sent : Appends old new (sends service v (heard received)).sent
    pub used_by_it : used ≡ (said (heard received)).used
    pub server : w ≡ (sends service v (heard received)).served

  -- all that is whole of the bytes received is served, and these are used
  pub record Listens (v : Served S) (received : List ℕ) (old new : Option (List ℕ)) (used : ℕ) (w : Served S) : Type 0 where
    pub sent : Appends old new (all_served service v received).sent
    pub used_all : used ≡ length received - length (all_served service v received).left
    pub server : w ≡ (all_served service v received).served

  -- some of the items were served
  abbrev pub InPart : Served S → List ℕ → Served S → Type 0
  InPart v received w = (n : ℕ) × (w ≡ (serving service n v received).served)

  -- what is sent is what is sent for the items of the stream, one behind the other
  abbrev pub SentInTurn : Served S → List ℕ → Option (List ℕ) → Option (List ℕ) → Type 0
  SentInTurn v stream old new = (items : List Heard) (rest : List ℕ) → Runs stream items rest → Appends old new (in_turn service v items rest).sent

module _ (service : Service State) where
  -- a stream is served to its end over a pile, of which this is left
  pub record Serves (p : Pile) (stream : List ℕ) (old new : Option (List ℕ)) (q : Pile) : Type 0 where
    pub sent : Appends old new (all_served service (fresh p) stream).sent
    pub pile : q ≡ (all_served service (fresh p) stream).served.session.pile

  -- all of an input is, whatever it gives
  pub record ServesAll (p : Pile) (before after old new : Option (List ℕ)) (q : Pile) : Type 0 where
    pub stream : List ℕ
    pub read : Consumes before after stream
    pub end : IsAtEnd after
    pub serves : Serves p stream old new q

  -- some of the items in what was read were served over a pile, of which this is left
  pub record BreaksOff (p : Pile) (before after : Option (List ℕ)) (q : Pile) : Type 0 where
    pub stream : List ℕ
    pub read : Consumes before after stream
    pub server : Served State
    pub in_part : InPart service (fresh p) stream server
    pub pile : q ≡ server.session.pile

-- a stream is served item by item
abbrev pub EachItemInTurn : Type 0
EachItemInTurn = (service : Service State) (v : Served State) (stream : List ℕ) (items : List Heard) (rest : List ℕ) → Runs stream items rest
    → all_served service v stream ≡ in_turn service v items rest

-- it may come in pieces
abbrev pub PiecesDoNotMatter : Type 0
PiecesDoNotMatter = (service : Service State) (v : Served State) (piece more : List ℕ) →
    let r : Run State = all_served service v piece in
    all_served service v (piece ++ more) ≡ behind r.sent (all_served service r.served (r.left ++ more))

-- no more turns are needed than it has bytes
abbrev pub FewTurns : Type 0
FewTurns = (service : Service State) (v : Served State) (stream : List ℕ) (n : ℕ) → length stream ≤ n → serving service n v stream ≡ all_served service v stream
