use Rattle.std.proofs.Common.{◌≡◌, ℕ, List, [], ◌∷◌, length, Some, None, Ok, Err, Option, Result, refl, sym, subst, ap, ◌∙◌, inl, inr, arith}
use Rattle.std.proofs.lemmas.List.{length-map}
use Rattle.spaces.specs.declared.fault.Fault.{Fault}
use Rattle.packets.specs.declared.command_refusal.CommandRefusal.{CommandRefusal}
use Rattle.spaces.specs.Maps.{Map}
use Rattle.spaces.specs.Piles.{Pile, Lawful, shown}
use Rattle.spaces.specs.Reads.{Got, got}
use Rattle.spaces.specs.EditLaws.{bare, bare_layer}
use Rattle.spaces.specs.PileLaws.{ReadsAlike}
use Rattle.spaces.proofs.Arising.{arose}
use Rattle.spaces.proofs.Resting.{rests_on_trail}
use Rattle.packets.specs.Asking.{asked}
use Rattle.packets.specs.Frames.{framed}
use Rattle.packets.specs.Commands.{Asked, why_halted, read, write, registers, detach, thread, supported, depth, last_fault, unknown}
use Rattle.patchfiles.specs.Runs.{left_by}
use Rattle.sessions.specs.States.{State, fresh}
use Rattle.sessions.specs.Effects.{at_most, asked_for, met_by}
use Rattle.sessions.specs.Answers.{spoken, read_text, reply, latest}
use Rattle.sessions.specs.Histories.{Event, heard, answered, applied, History, Earlier, same, before}
use Rattle.sessions.specs.Books.{Book, marks, depth_after, in_force}
use Rattle.sessions.specs.Shows.{Shows, ShownIn}
use Rattle.sessions.specs.Promises as promised
use Rattle.sessions.specs.Promises.{Read, since, Met, LastFault, never, RepliesShowTheMap, AskedItIsTold, EveryFaultAroseThere, UntouchedTrailsKeepReplies, Kept}
use Rattle.sessions.proofs.Showing.{ShowsGot, shows_got, got_shows}
use Rattle.sessions.proofs.Histories.{earlier_cases, earlier_shorter, nothing_earlier}
use Rattle.sessions.proofs.Touching.{book_kin, run_same}

-- One step of a session, and what is kept by it.

-- the fault that an event meets
abbrev pub faced : Map → Event → Option Fault
faced m (heard received) = None
faced m (answered payload frame) = met_by m (asked payload)
faced m (applied file outcome) = None

-- the book of a session that is kept
abbrev book_of : State → Book
book_of s = record { depth = s.depth; pile = s.pile }

-- the session after an event
abbrev pub stepped : State → Event → State
stepped s e = record { pile = left_by (marks (book_of s) e) s.pile; depth = depth_after s.depth e; last = latest (faced (shown s.pile) e) s.last }

-- what is answered is the reply
abbrev pub Right : State → Event → Type 0
Right s (heard received) = Unit {0}
Right s (answered payload frame) = frame ≡ framed (reply s payload)
Right s (applied file outcome) = Unit {0}

-- a read's reply shows its map, and its fault is what it met
read_shown : (m : Map) (first count : ℕ) (frame : List ℕ) → frame ≡ framed (read_text (got m (asked_for first count))) → ShownIn frame m first (at_most count)
read_shown m first count frame e = record { bytes = _; met = _; shows = shows_got m first (at_most count); is = e }

module _ (p : Pile) where
  -- the same read, found in another history
  abbrev found : {h k : History} (r : Read h) → Earlier (since r) k → Read k
  found r t = record { payload = r.payload; frame = r.frame; before = r.before; there = t; first = r.first; count = r.count; accepted = r.accepted }

  arose_there : (h : History) → Lawful p → EveryFaultAroseThere p h
  arose_there h l few r f (bytes, s) =
      let k = book_kin p r.before l in
      arose (record { pile = in_force p r.before; lawful = k.lawful }) (rw (length_same (in_force p r.before) k.rest) few) _ f (s.stops f refl).1
    where
      length_same : (q : Pile) → bare q ≡ bare p → length q.layers ≡ length p.layers
      length_same q e = let z = ap (λ (w : Pile). length w.layers) e in sym (length-map q.layers bare_layer) ∙ z ∙ length-map p.layers bare_layer

  steady : (h : History) → Lawful p → RepliesShowTheMap p h → UntouchedTrailsKeepReplies p h
  steady h l replies r s after addresses untouched = (
    let a = replies r in let b = replies s in
        a.is ∙ spoken_alike a b ∙ sym b.is,
    λ o m. let z = sym alike ∙ got_shows map_r r.first (at_most r.count) m.0 o m.1 in (m.0, subst (ShowsGot map_s s.first (at_most s.count)) z (shows_got map_s s.first (at_most s.count))),
  )
    where
      map_r : Map
      map_r = shown (in_force p r.before)

      map_s : Map
      map_s = shown (in_force p s.before)

      -- a read changes nothing
      unchanged : in_force p (since r) ≡ in_force p r.before
      unchanged = rw (r.accepted) refl

      rests : ReadsAlike (in_force p r.before) (in_force p s.before) (asked_for r.first r.count)
      rests = rests_on_trail (record { pile = in_force p r.before; lawful = (book_kin p r.before l).lawful }) (in_force p s.before) (asked_for r.first r.count) (record {
        layers = (book_kin p r.before l).rest ∙ sym (book_kin p s.before l).rest;
        patches = λ k a t. rw unchanged at (run_same k a p l after (λ c q. untouched c a (rw q at t)));
      })

      alike : got map_r (asked_for r.first r.count) ≡ got map_s (asked_for s.first s.count)
      alike = rests.answer ∙ ap (got map_s) addresses

      spoken_alike : (a : ShownIn r.frame map_r r.first (at_most r.count)) (b : ShownIn s.frame map_s s.first (at_most s.count)) → framed (spoken a.bytes a.met) ≡ framed (spoken b.bytes b.met)
      spoken_alike a b = ap (λ (g : Got). framed (read_text g)) (sym (got_shows map_r r.first (at_most r.count) a.bytes a.met a.shows) ∙ alike ∙ got_shows map_s s.first (at_most s.count) b.bytes b.met b.shows)

-- only a read meets a fault
abbrev Reads : Event → Type 0
Reads e = (payload frame : List ℕ) × (first count : ℕ) × (e ≡ answered payload frame) × (asked payload ≡ Ok (read first count))

reads : (m : Map) (e : Event) (f : Fault) → faced m e ≡ Some f → Reads e
reads m (heard received) f n = cc
reads m (applied file outcome) f n = cc
reads m (answered payload frame) f n = step (asked payload) refl n
  where
    step : (a : Result Asked CommandRefusal) → asked payload ≡ a → met_by m a ≡ Some f → Reads (answered payload frame)
    step (Ok (read first count)) q n = (payload, frame, first, count, refl, q)
    step (Ok (write first digits)) q n = cc
    step (Ok (depth d)) q n = cc
    step (Ok why_halted) q n = cc
    step (Ok registers) q n = cc
    step (Ok detach) q n = cc
    step (Ok thread) q n = cc
    step (Ok supported) q n = cc
    step (Ok last_fault) q n = cc
    step (Ok unknown) q n = cc
    step (Err refusal) q n = cc

module _ (p : Pile) (h : History) (s : State) (e : Event) (k : Kept p h s) (right : Right s e) where
  replies_more : RepliesShowTheMap p (e ∷ h)
  replies_more r = elim (earlier_cases r.there) [
    | inl q ↦ newest r.payload r.frame r.before r.first r.count r.accepted q
    | inr t ↦ k.replies (found p r t)
  ]
    where
      newest : (payload frame : List ℕ) (b : History) (first count : ℕ) → asked payload ≡ Ok (read first count) → answered payload frame ∷ b ≡ e ∷ h → ShownIn frame (shown (in_force p b)) first (at_most count)
      newest payload frame b first count a q =
          let qe : answered payload frame ≡ e = cc in
          let qh : b ≡ h = cc in
          let w = subst (Right s) (sym qe) right in
          rw (qh, ← k.pile) (read_shown (shown s.pile) first count frame (w ∙ rw a refl))

  told_more : AskedItIsTold p (e ∷ h)
  told_more payload frame b t a = elim (earlier_cases t) [
    | inl q ↦
        let qe : answered payload frame ≡ e = cc in
        let qh : b ≡ h = cc in
        let w = subst (Right s) (sym qe) right in
        (s.last, rw qh k.last, w ∙ rw a refl)
    | inr u ↦ k.told payload frame b u a
  ]

  -- what the newest event met, if it is a read
  met_newest : (r : Read (e ∷ h)) → since r ≡ e ∷ h → (o : Option Fault) → faced (shown s.pile) e ≡ o → Met p r o
  met_newest r q o f = (_, subst (Shows (shown (in_force p r.before)) r.first (at_most r.count) _) fault (shows_got (shown (in_force p r.before)) r.first (at_most r.count)))
    where
      fault : (got (shown (in_force p r.before)) (asked_for r.first r.count)).fault ≡ o
      fault =
          let qe : answered r.payload r.frame ≡ e = cc in
          let qh : r.before ≡ h = cc in
          let w : met_by (shown s.pile) (asked r.payload) ≡ o = subst (λ x. faced (shown s.pile) x ≡ o) (sym qe) f in
          rw (qh, ← k.pile) (rw r.accepted at w)

  quiet : faced (shown s.pile) e ≡ None → {o : Option Fault} → LastFault p h o → LastFault p (e ∷ h) o
  quiet n (never met) = never (λ r. elim (earlier_cases r.there) [
    | inl q ↦ met_newest r q None n
    | inr t ↦ met (found p r t)
  ])
  quiet n (promised.latest r f m after) = promised.latest (found p r (before r.there)) f m (λ t u. elim (earlier_cases t.there) [
    | inl q ↦ met_newest t q None n
    | inr v ↦ after (found p t v) u
  ])

  -- a read that met a fault is the latest
  met_one : (f : Fault) → faced (shown s.pile) e ≡ Some f → LastFault p (e ∷ h) (Some f)
  met_one f n = promised.latest newest f (met_newest newest (ap (λ x. x ∷ h) (sym t.4)) (Some f) n) (λ r u. absurd (none_after r u))
    where
      t : Reads e
      t = reads (shown s.pile) e f n

      newest : Read (e ∷ h)
      newest = record { payload = t.0; frame = t.1; before = h; there = subst (λ x. Earlier (answered t.0 t.1 ∷ h) (x ∷ h)) (sym t.4) same; first = t.2; count = t.3; accepted = t.5 }

      none_after : (r : Read (e ∷ h)) → Earlier (since newest) r.before → ⊥
      none_after r u = let a = earlier_shorter u in let b = earlier_shorter r.there in omega arith

  last_more : LastFault p (e ∷ h) (stepped s e).last
  last_more = step (faced (shown s.pile) e) refl
    where
      step : (o : Option Fault) → faced (shown s.pile) e ≡ o → LastFault p (e ∷ h) (latest o s.last)
      step None n = quiet n k.last
      step (Some f) n = met_one f n

  pub kept_more : Kept p (e ∷ h) (stepped s e)
  kept_more = record {
    replies = replies_more;
    last = last_more;
    told = told_more;
    arose = arose_there p (e ∷ h) k.lawful;
    steady = steady p (e ∷ h) k.lawful replies_more;
    pile = rw (k.pile, k.depth) refl;
    depth = rw k.depth refl;
    rest = (book_kin p (e ∷ h) k.lawful).rest;
    lawful = k.lawful;
  }

pub kept_new : (p : Pile) → Lawful p → Kept p [] (fresh p)
kept_new p l = record {
  replies = λ r. absurd (nothing_earlier r.there);
  last = never (λ r. absurd (nothing_earlier r.there));
  told = λ payload frame b t a. absurd (nothing_earlier t);
  arose = arose_there p [] l;
  steady = steady p [] l (λ r. absurd (nothing_earlier r.there));
  pile = refl;
  depth = refl;
  rest = refl;
  lawful = l;
}
