use Rattle.std.proofs.Common.{◌≡◌, ℕ, List, ◌∷◌, ◌⊎◌, Some, None, Ok, Option, refl, sym, ap, ◌∙◌, inl, inr, arith}
use Rattle.spaces.specs.declared.fault.Fault.{Fault}
use Rattle.spaces.specs.Reads.{Got, got}
use Rattle.spaces.specs.Piles.{Pile, shown}
use Rattle.packets.specs.Asking.{asked}
use Rattle.packets.specs.Commands.{read, last_fault}
use Rattle.packets.specs.Frames.{framed}
use Rattle.sessions.specs.Answers.{read_text, fault_reply, reply, after}
use Rattle.sessions.specs.Shows.{ShownIn}
use Rattle.sessions.specs.States.{State}
use Rattle.sessions.specs.Effects.{at_most, asked_for, written_by, met_by}
use Rattle.sessions.specs.Histories.{Event, answered, History, Earlier, same, before}
use Rattle.sessions.specs.Books.{marks, book, in_force, Takes}
use Rattle.sessions.specs.Promises as promised
use Rattle.sessions.specs.Promises.{Read, since, Met, LastFault, never, Kept, Change}
use Rattle.sessions.specs.Laws.{WhatIsKeptLeavesNothingOpen, EveryLastFaultArose, OffTheTrail, Again}
use Rattle.sessions.proofs.Showing.{shows_got, got_shows}
use Rattle.sessions.proofs.Histories.{earlier_cases, earlier_shorter}
use Rattle.sessions.proofs.Keeping.{kept_more}
use Rattle.spaces.specs.Trails.{trail}
use Rattle.spaces.specs.Edits.{patch_at}
use Rattle.spaces.specs.EditLaws.{Touches}
use Rattle.patchfiles.specs.Runs.{Mark}
use mathlib.Core.List.{Memᴰ}
use Rattle.spaces.specs.PileLaws.{Arose}

-- What is kept leaves nothing open.

linear : {a b h : History} {d e : Event} → Earlier (d ∷ a) h → Earlier (e ∷ b) h → (d ∷ a ≡ e ∷ b) ⊎ (Earlier (d ∷ a) b ⊎ Earlier (e ∷ b) a)
linear same same = inl refl
linear same (before u) = inr (inr u)
linear (before t) same = inr (inl t)
linear (before t) (before u) = linear t u

module _ (p : Pile) where
  fault_of : {h : History} (r : Read h) (o : Option Fault) → Met p r o → (got (shown (in_force p r.before)) (asked_for r.first r.count)).fault ≡ o
  fault_of r o m = ap (λ (g : Got). g.fault) (got_shows (shown (in_force p r.before)) r.first (at_most r.count) m.0 o m.1)

  same_read : {h : History} (r s : Read h) (o q : Option Fault) → since r ≡ since s → Met p r o → Met p s q → o ≡ q
  same_read r s o q e m n =
      let b : r.before ≡ s.before = cc in
      let w : r.payload ≡ s.payload = cc in
      let a = rw w at r.accepted in
      let f : r.first ≡ s.first = grind (arith, a, s.accepted) in
      let c : r.count ≡ s.count = grind (arith, a, s.accepted) in
      sym (fault_of r o m) ∙ rw (b, f, c) (fault_of s q n)

  only_fault : {h : History} {o q : Option Fault} → LastFault p h o → LastFault p h q → o ≡ q
  only_fault (never n) (never m) = refl
  only_fault (never n) (promised.latest r f m a) = same_read r r None (Some f) refl (n r) m
  only_fault (promised.latest r f m a) (never n) = same_read r r (Some f) None refl m (n r)
  only_fault (promised.latest r f m a) (promised.latest s g n b) = elim (linear r.there s.there) [
    | inl e ↦ same_read r s (Some f) (Some g) e m n
    | inr more ↦ elim more [
      | inl t ↦ let z : None ≡ Some g = same_read s s None (Some g) refl (a s t) n in absurd cc
      | inr t ↦ let z : None ≡ Some f = same_read r r None (Some f) refl (b r t) m in absurd cc
    ]
  ]

  only_session : (h : History) (s t : State) → Kept p h s → Kept p h t → s ≡ t
  only_session h s t k l =
      let pile = k.pile ∙ sym l.pile in
      let depth = k.depth ∙ sym l.depth in
      let last = only_fault k.last l.last in
      λ i. record { pile = pile i; depth = depth i; last = last i }

  shown_one : (h : History) (frame : List ℕ) (first count : ℕ) → ShownIn frame (shown (in_force p h)) first (at_most count)
      → frame ≡ framed (read_text (got (shown (in_force p h)) (asked_for first count)))
  shown_one h frame first count w = w.is ∙ ap (λ (g : Got). framed (read_text g)) (sym (got_shows (shown (in_force p h)) first (at_most count) w.bytes w.met w.shows))

  only_read_frame : (h : History) (payload frame other : List ℕ) (first count : ℕ) (s t : State) → asked payload ≡ Ok (read first count)
      → Kept p (answered payload frame ∷ h) s → Kept p (answered payload other ∷ h) t → frame ≡ other
  only_read_frame h payload frame other first count s t a k l =
      shown_one h frame first count (k.replies (record { payload = payload; frame = frame; before = h; there = same; first = first; count = count; accepted = a }))
      ∙ sym (shown_one h other first count (l.replies (record { payload = payload; frame = other; before = h; there = same; first = first; count = count; accepted = a })))

  only_fault_frame : (h : History) (payload frame other : List ℕ) (s t : State) → asked payload ≡ Ok last_fault
      → Kept p (answered payload frame ∷ h) s → Kept p (answered payload other ∷ h) t → frame ≡ other
  only_fault_frame h payload frame other s t a k l =
      let one = k.told payload frame h same a in
      let another = l.told payload other h same a in
      one.2 ∙ ap (λ o. framed (fault_reply o)) (only_fault one.1 another.1) ∙ sym another.2

pub decides : WhatIsKeptLeavesNothingOpen
decides p = record { session = only_session p; read_frame = only_read_frame p; fault_frame = only_fault_frame p }

pub last_arose : EveryLastFaultArose
last_arose p h s f few k e = step s.last e k.last
  where
    step : (o : Option Fault) → o ≡ Some f → LastFault p h o → (r : Read h) × Arose (in_force p r.before) f
    step None e l = cc
    step (Some g) e (promised.latest r g′ m a) = (r, k.arose few r f (m.0, rw e at m.1))

-- a read, a payload, and the read again
module _ (p : Pile) (h : History) (s : State) (payload between : List ℕ) (first count : ℕ) (k : Kept p h s) (is : asked payload ≡ Ok (read first count))
    (off : OffTheTrail (trail s.pile (asked_for first count)) (after s payload) between) where
  abbrev frame : State → List ℕ → List ℕ
  frame t w = framed (reply t w)

  abbrev once : History
  once = answered payload (frame s payload) ∷ h

  abbrev twice : History
  twice = answered between (frame (after s payload) between) ∷ once

  kept_once : Kept p once (after s payload)
  kept_once = kept_more p h s (answered payload (frame s payload)) k refl

  kept_twice : Kept p twice (after (after s payload) between)
  kept_twice = kept_more p once (after s payload) (answered between (frame (after s payload) between)) kept_once refl

  kept_thrice : Kept p (answered payload (frame (after (after s payload) between) payload) ∷ twice) (after (after (after s payload) between) payload)
  kept_thrice = kept_more p twice (after (after s payload) between) (answered payload (frame (after (after s payload) between) payload)) kept_twice refl

  takes_there : (e : Event) (b : History) (q : Pile) (m : Mark) → e ∷ b ≡ twice → Takes (in_force p b) (marks (book p b) e) q m
      → Takes (after s payload).pile (written_by (after s payload).depth (asked between)) q m
  takes_there e b q m eq t =
      let event : e ≡ answered between (frame (after s payload) between) = cc in
      let then : b ≡ once = cc in
      rw (kept_once.pile, kept_once.depth) (rw (event, then) at t)

  pub kept_again : Again s (after (after s payload) between) payload
  kept_again = record { frame = sym steady.0; met = met_there }
    where
      old : Read (answered payload (frame (after (after s payload) between) payload) ∷ twice)
      old = record { payload = payload; frame = frame s payload; before = h; there = before (before same); first = first; count = count; accepted = is }

      new : Read (answered payload (frame (after (after s payload) between) payload) ∷ twice)
      new = record { payload = payload; frame = frame (after (after s payload) between) payload; before = twice; there = same; first = first; count = count; accepted = is }

      untouched : (c : Change p once twice) (a : ℕ) → Memᴰ a (trail (in_force p h) (asked_for first count) c.mark.depth) → Touches c.mark.edit (patch_at c.pile c.mark.depth) a → ⊥
      untouched c a t u = elim (earlier_cases c.ends) [
        | inl q ↦ off c.pile c.mark (takes_there c.event c.between c.pile c.mark q c.takes) a (rw k.pile t) u
        | inr v ↦ let x = earlier_shorter v in let y = earlier_shorter c.begins in absurd (omega arith)
      ]

      steady : (frame s payload ≡ frame (after (after s payload) between) payload) × ((o : Option Fault) → Met p old o → Met p new o)
      steady = kept_thrice.steady old new (before same) refl untouched

      met_first : Met p old (got (shown (in_force p h)) (asked_for first count)).fault
      met_first = ((got (shown (in_force p h)) (asked_for first count)).bytes, shows_got (shown (in_force p h)) first (at_most count))

      same_fault : (q r : Pile) → q ≡ in_force p twice → r ≡ in_force p h → (got (shown q) (asked_for first count)).fault ≡ (got (shown r) (asked_for first count)).fault
      same_fault q r e f = rw (e, f) (fault_of p new _ (steady.1 _ met_first))

      met_there : met_by (shown (after (after s payload) between).pile) (asked payload) ≡ met_by (shown s.pile) (asked payload)
      met_there = ap (met_by (shown (after (after s payload) between).pile)) is ∙ same_fault _ _ kept_twice.pile k.pile ∙ sym (ap (met_by (shown s.pile)) is)
