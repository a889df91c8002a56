use Rattle.std.specs.Prelude.{◌≡◌, ℕ, ◌≤◌, List, ◌∷◌, length, Some, None, Ok, Option}
use mathlib.Core.List.{Memᴰ}
use Rattle.spaces.specs.declared.fault.Fault.{Fault}
use Rattle.spaces.specs.Maps.{Map}
use Rattle.spaces.specs.Piles.{Pile, Lawful, shown}
use Rattle.spaces.specs.Trails.{trail}
use Rattle.spaces.specs.Edits.{patch_at}
use Rattle.spaces.specs.EditLaws.{bare, Touches}
use Rattle.spaces.specs.PileLaws.{Arose}
use Rattle.packets.specs.Frames.{framed}
use Rattle.packets.specs.Asking.{asked}
use Rattle.packets.specs.Commands.{read, last_fault}
use Rattle.patchfiles.specs.Runs.{Mark}
use Rattle.sessions.specs.States.{State}
use Rattle.sessions.specs.Effects.{at_most, asked_for}
use Rattle.sessions.specs.Answers.{fault_reply}
use Rattle.sessions.specs.Histories.{Event, answered, History, Earlier}
use Rattle.sessions.specs.Books.{book, in_force, marks, Takes}
use Rattle.sessions.specs.Shows.{Shows, ShownIn}

-- What a session keeps, whatever calls were made of it. `p` is its pile when it was new.

-- an accepted read that was answered
pub record Read (h : History) : Type 0 where
  pub payload : List ℕ
  pub frame : List ℕ
  pub before : History
  pub there : Earlier (answered payload frame ∷ before) h
  pub first : ℕ
  pub count : ℕ
  pub accepted : asked payload ≡ Ok (read first count)

abbrev pub since : {h : History} → Read h → History
since r = answered r.payload r.frame ∷ r.before

module _ (p : Pile) where
  -- the map under the patches in force when it was answered
  abbrev pub map_of : {h : History} → Read h → Map
  map_of r = shown (in_force p r.before)

  -- every read's reply shows its map
  abbrev pub RepliesShowTheMap : History → Type 0
  RepliesShowTheMap h = (r : Read h) → ShownIn r.frame (map_of r) r.first (at_most r.count)

  -- a read met this fault, or none
  abbrev pub Met : {h : History} → Read h → Option Fault → Type 0
  Met r o = (bytes : List ℕ) × Shows (map_of r) r.first (at_most r.count) bytes o

  -- the latest fault that a read met, or none
  pub data LastFault (h : History) : Option Fault → Type 0 where
    never : ((r : Read h) → Met r None) → LastFault h None
    latest : (r : Read h) (f : Fault) → Met r (Some f) → ((s : Read h) → Earlier (since r) s.before → Met s None) → LastFault h (Some f)

  -- whoever asks for the last fault is told what it was then
  abbrev pub AskedItIsTold : History → Type 0
  AskedItIsTold h = (payload frame : List ℕ) (before : History) → Earlier (answered payload frame ∷ before) h → asked payload ≡ Ok last_fault
      → (o : Option Fault) × LastFault before o × (frame ≡ framed (fault_reply o))

  -- every fault that a read met arose where it says, under that read's patches
  abbrev pub EveryFaultAroseThere : History → Type 0
  EveryFaultAroseThere h = length p.layers ≤ 255 → (r : Read h) (f : Fault) → Met r (Some f) → Arose (in_force p r.before) f

  -- an edit that took effect after one history and before another is over: by which event, and in which pile
  pub record Change (old new : History) : Type 0 where
    pub between : History
    pub event : Event
    pub begins : Earlier old between
    pub ends : Earlier (event ∷ between) new
    pub pile : Pile
    pub mark : Mark
    pub takes : Takes (in_force p between) (marks (book p between) event) pile mark

  -- no patch on a read's trail was set or taken back until another
  abbrev pub TrailUntouched : {h : History} → Read h → Read h → Type 0
  TrailUntouched r s = (c : Change (since r) s.before) (a : ℕ) → Memᴰ a (trail (in_force p r.before) (asked_for r.first r.count) c.mark.depth)
      → Touches c.mark.edit (patch_at c.pile c.mark.depth) a → ⊥

  -- two reads of the same addresses have the same reply, and the same fault or none, if the first one's trail is untouched between them
  abbrev pub UntouchedTrailsKeepReplies : History → Type 0
  UntouchedTrailsKeepReplies h = (r s : Read h) → Earlier (since r) s.before → asked_for r.first r.count ≡ asked_for s.first s.count → TrailUntouched r s
      → (r.frame ≡ s.frame) × ((o : Option Fault) → Met r o → Met s o)

  -- all of it, of a session that a history led to
  pub record Kept (h : History) (s : State) : Type 0 where
    pub replies : RepliesShowTheMap h
    pub last : LastFault h s.last
    pub told : AskedItIsTold h
    pub arose : EveryFaultAroseThere h
    pub steady : UntouchedTrailsKeepReplies h
    pub pile : s.pile ≡ in_force p h
    pub depth : s.depth ≡ (book p h).depth
    pub rest : bare (in_force p h) ≡ bare p
    pub lawful : Lawful p

-- a call keeps all of it, whatever history led to the session
abbrev pub Keeps : State → Event → State → Type 0
Keeps s e t = (p : Pile) (h : History) → Kept p h s → Kept p (e ∷ h) t
