use Rattle.std.specs.Prelude.{◌≡◌, ℕ, ◌≤◌, List, ◌∷◌, length, Some, None, Ok}
use mathlib.Core.List.{Memᴰ}
use Rattle.spaces.specs.declared.fault.Fault.{Fault}
use Rattle.spaces.specs.Piles.{Pile, shown}
use Rattle.spaces.specs.Trails.{trail}
use Rattle.spaces.specs.Edits.{patch_at}
use Rattle.spaces.specs.EditLaws.{Touches}
use Rattle.spaces.specs.PileLaws.{Arose}
use Rattle.packets.specs.Asking.{asked}
use Rattle.packets.specs.Commands.{read, last_fault}
use Rattle.packets.specs.Frames.{framed}
use Rattle.patchfiles.specs.Runs.{Mark, refused}
use Rattle.sessions.specs.States.{State}
use Rattle.sessions.specs.Effects.{asked_for, written_by, met_by}
use Rattle.sessions.specs.Answers.{reply, after}
use Rattle.sessions.specs.Histories.{answered, History}
use Rattle.sessions.specs.Books.{in_force, Takes}
use Rattle.sessions.specs.Promises.{Read, Kept}

-- What follows from what a session keeps, and from nothing else.

-- It leaves nothing open: a history leads to one session, an accepted read has one frame, and so has the question for the last fault.
pub record Decides (p : Pile) : Type 0 where
  pub session : (h : History) (s t : State) → Kept p h s → Kept p h t → s ≡ t
  pub read_frame : (h : History) (payload frame other : List ℕ) (first count : ℕ) (s t : State) → asked payload ≡ Ok (read first count)
      → Kept p (answered payload frame ∷ h) s → Kept p (answered payload other ∷ h) t → frame ≡ other
  pub fault_frame : (h : History) (payload frame other : List ℕ) (s t : State) → asked payload ≡ Ok last_fault
      → Kept p (answered payload frame ∷ h) s → Kept p (answered payload other ∷ h) t → frame ≡ other

abbrev pub WhatIsKeptLeavesNothingOpen : Type 0
WhatIsKeptLeavesNothingOpen = (p : Pile) → Decides p

-- a last fault arose where it says, under the patches of some read
abbrev pub EveryLastFaultArose : Type 0
EveryLastFaultArose = (p : Pile) (h : History) (s : State) (f : Fault) → length p.layers ≤ 255 → Kept p h s → s.last ≡ Some f
    → (r : Read h) × Arose (in_force p r.before) f

-- the edits that answering a payload makes are off a trail: none sets or takes back a patch on it at its depth
abbrev pub OffTheTrail : (ℕ → List ℕ) → State → List ℕ → Type 0
OffTheTrail rests s payload = (p : Pile) (m : Mark) → Takes s.pile (written_by s.depth (asked payload)) p m → (a : ℕ) → Memᴰ a (rests m.depth)
    → Touches m.edit (patch_at p m.depth) a → ⊥

-- what is answered to a read is answered again in another session, and it meets the same fault there, or none
pub record Again (s t : State) (payload : List ℕ) : Type 0 where
  pub frame : framed (reply t payload) ≡ framed (reply s payload)
  pub met : met_by (shown t.pile) (asked payload) ≡ met_by (shown s.pile) (asked payload)

-- so it is after a payload whose edits are off its trail
abbrev pub EveryWriteOffTheTrailKeepsTheRead : Type 0
EveryWriteOffTheTrailKeepsTheRead = (p : Pile) (h : History) (s : State) (payload between : List ℕ) (first count : ℕ) → Kept p h s → asked payload ≡ Ok (read first count)
    → OffTheTrail (trail s.pile (asked_for first count)) (after s payload) between → Again s (after (after s payload) between) payload

-- an edit that takes effect was accepted, in the pile that it finds
abbrev pub NothingRefusedTakesEffect : Type 0
NothingRefusedTakesEffect = (p q : Pile) (marks : List Mark) (m : Mark) → Takes p marks q m → refused q m ≡ None
