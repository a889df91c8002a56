use Rattle.std.specs.Prelude.{◌≡◌, ℕ, Bool, true, false, List, [], ◌∷◌, ◌++◌, length, take, drop, Result}
use Rattle.spaces.specs.Piles.{Pile}
use Rattle.packets.specs.Items as items
use Rattle.packets.specs.Hearing as hearing
use Rattle.packets.specs.Frames.{framed}
use Rattle.patchfiles.specs.declared.stopped.Stopped.{Stopped}
use Rattle.sessions.specs.declared.pile_server.PileServer.{PileServer}
use Rattle.sessions.specs.States.{State, fresh}
use Rattle.sessions.specs.Services.{Service, pile_service}
use Rattle.sessions.specs.Histories as events
use Rattle.sessions.specs.Histories.{History}
use Rattle.sessions.specs.Promises.{Kept}
use Rattle.sessions.specs.Sessions.{state, is_packet}
use Rattle.replays.specs.declared.call.Call as declared
use Rattle.replays.specs.declared.call.Call.TheVariants as is
use Rattle.replays.specs.declared.call.Outcome as came
use Rattle.replays.specs.declared.call.Outcome.TheVariants as came_of
use Rattle.replays.specs.declared.call.Slot as places
use Rattle.replays.specs.declared.replaying.Stage.{Stage}
use Rattle.replays.specs.declared.replaying.Stage.TheVariants.{Waits, Owes}

-- Calls of a session, one behind the other, and what comes of them.

pub data Call : Type 0 where
  hear answer apply : List ℕ → Call

pub data Outcome : Type 0 where
  not_allowed : Outcome
  heard : items.Heard → Outcome
  answered : ℕ → Outcome
  applied : Result ℕ Stopped → Outcome

pub record Place : Type 0 where
  pub outcome : Outcome
  pub frame : List ℕ

-- a talk and a server: whether the talk owes a reply, and the server's state
pub record Stand (S : Type 0) : Type 0 where
  pub owes : Bool
  pub state : S

-- what those of the program are
abbrev pub call_meant : declared.Call → Call
call_meant (is.Hear received) = hear received.now
call_meant (is.Answer payload) = answer payload.now
call_meant (is.Apply file) = apply file.now

abbrev pub outcome_meant : came.Outcome → Outcome
outcome_meant came_of.NotAllowed = not_allowed
outcome_meant (came_of.Heard item) = heard (items.meant item)
outcome_meant (came_of.Answered count) = answered count
outcome_meant (came_of.Applied result) = applied result

abbrev pub slot_meant : places.Slot → Place
slot_meant s = record { outcome = outcome_meant s.outcome; frame = s.reply }

abbrev pub stage_owes : Stage → Bool
stage_owes (Waits talk) = false
stage_owes (Owes owed) = true

abbrev pub stand : {S : Type 0} → (S → Pile) → Stage → PileServer S → Stand State
stand meaning stage server = record { owes = stage_owes stage; state = state meaning server }

-- a call's outcome, and the session afterwards: a talk that waits allows no answer, and one that owes a reply hears nothing
pub record Played (S : Type 0) : Type 0 where
  pub place : Place
  pub stand : Stand S

abbrev pub comes : {S : Type 0} → Outcome → List ℕ → Bool → S → Played S
comes outcome buffer owes s = record { place = record { outcome = outcome; frame = buffer }; stand = record { owes = owes; state = s } }

abbrev pub placed_first : {S : Type 0} → Played S → List Place × Stand S → List Place × Stand S
placed_first one rest = (one.place ∷ rest.0, rest.1)

module _ {S : Type 0} (service : Service S) where
  abbrev pub answers : S → List ℕ → List ℕ → Played S
  answers s payload buffer =
      let frame = framed (service.reply s payload) in
      comes (answered (length frame)) (frame ++ drop (length frame) buffer) false (service.after s payload)

  abbrev pub played_by : Bool → S → Call → List ℕ → Played S
  played_by false s (hear received) buffer = comes (heard (hearing.heard received)) buffer (is_packet (hearing.heard received)) s
  played_by true s (answer payload) buffer = answers s payload buffer
  played_by owes s (apply file) buffer = comes (applied (service.outcome s file)) buffer owes (service.applied_to s file)
  played_by owes s c buffer = comes not_allowed buffer owes s

  abbrev pub played : Stand S → Call → Place → Played S
  played g c place = played_by g.owes g.state c place.frame

  -- as many calls as there are places, in order: the places and the session afterwards
  abbrev pub replayed : Stand S → List Call → List Place → List Place × Stand S
  replayed g [] places = (places, g)
  replayed g (c ∷ cs) [] = ([], g)
  replayed g (c ∷ cs) (place ∷ places) = placed_first (played g c place) (replayed (played g c place).stand cs places)

  -- one step
  pub record Steps (old : Stand S) (c : Call) (before after : Place) (new : Stand S) : Type 0 where
    pub place : after ≡ (played old c before).place
    pub stand : new ≡ (played old c before).stand

-- the events of calls that were made, by what came of them
abbrev pub event : Call → Outcome → List ℕ → History → History
event (hear received) (heard item) frame h = events.heard received ∷ h
event (answer payload) (answered n) frame h = events.answered payload (take n frame) ∷ h
event (apply file) (applied r) frame h = events.applied file r ∷ h
event c other frame h = h

abbrev pub transcript : History → List Call → List Place → History
transcript h [] places = h
transcript h (c ∷ cs) [] = h
transcript h (c ∷ cs) (place ∷ places) = transcript (event c place.outcome place.frame h) cs places

-- a new session over a pile
abbrev pub begun : Pile → Stand State
begun p = record { owes = false; state = fresh p }

-- what a replay over a pile leaves
pub record Replays (p : Pile) (cs : List Call) (before after : List Place) (new : Stand State) : Type 0 where
  pub places : after ≡ (replayed pile_service (begun p) cs before).0
  pub stand : new ≡ (replayed pile_service (begun p) cs before).1

-- the whole promise, at every point of the run
abbrev pub KeptAllAlong : Pile → List Call → List Place → List Place → Type 0
KeptAllAlong p cs before after = (n : ℕ) → Kept p (transcript [] (take n cs) after) (replayed pile_service (begun p) (take n cs) before).1.state
