use Rattle.std.proofs.Common.{◌≡◌, ℕ, ◌+◌, ◌<◌, ◌≤◌, Bool, List, ◌++◌, length, drop, Some, None, Ok, Err, Option, Result, sym, subst, ap, ◌∙◌, arith, append_assoc}
use Rattle.std.proofs.lemmas.List.{append-nil}
use Rattle.std.specs.Io.KnownBytes.{Appends, Consumes, IsAtEnd}
use Rattle.std.specs.Result.{OnOk, OnErr}
use Rattle.std.specs.Option.{IfSome}
use Rattle.spaces.specs.Piles.{Pile}
use Rattle.packets.specs.Items.{unfinished}
use Rattle.packets.specs.Hearing.{heard}
use Rattle.packets.proofs.Hearings.{hears}
use Rattle.sessions.specs.States.{State}
use Rattle.sessions.specs.Services.{Service}
use Rattle.serving.specs.Serving.{Served, fresh, Run, behind, serving, all_served}
use Rattle.serving.specs.Words.{Listens, InPart, Serves, ServesAll, SentInTurn, BreaksOff}
use Rattle.serving.specs.Reading.{Reads, ServedSoFar, ToTheEnd, InPartOf}
use Rattle.serving.proofs.Serving.{left_unfinished, left_is, in_pieces, pieces}
use Rattle.serving.proofs.Listening.{appends_more, in_items}

-- An input that is read and served piece by piece.

consumes_more : (o p q : Option (List ℕ)) (xs ys : List ℕ) → Consumes o p xs → Consumes p q ys → Consumes o q (xs ++ ys)
consumes_more None p q xs ys a b = tt
consumes_more (Some o) None q xs ys a b = absurd a
consumes_more (Some o) (Some p) None xs ys a b = absurd b
consumes_more (Some o) (Some p) (Some q) xs ys a b = rw (a, b) (sym (append_assoc xs ys q))

module _ {S : Type 0} (service : Service S) (v : Served S) where
  module _ (before after old new : Option (List ℕ)) (pending : List ℕ) (w : Served S) (k : ServedSoFar service v before after old new pending w) where
    -- there is always room to read on
    pub room : length pending < 4100
    room =
        let idle : heard pending ≡ unfinished = rw k.left (left_unfinished service (length k.stream) v k.stream (omega arith)) in
        let no : 4100 ≤ length pending → heard pending ≡ unfinished → ⊥ = λ l. (hears pending).enough l in
        omega (arith, λ (l : 4100 ≤ length pending). no l idle)

    -- a piece is read, and all that is whole is served
    pub piece_served : (later : Option (List ℕ)) (more : List ℕ) (some : Bool) (newer : Option (List ℕ)) (used : ℕ) (u : Served S)
        → Reads after later pending more some → Listens service w more new newer used u → ServedSoFar service v before later old newer (drop used more) u
    piece_served later more some newer used u r l =
        let so_far : Run S = all_served service v k.stream in
        let p = pieces service v k.stream r.piece in
        let here : so_far.left ++ r.piece ≡ more = rw (← k.left) (sym r.pending) in
        let then_here : all_served service v (k.stream ++ r.piece) ≡ behind so_far.sent (all_served service w more) = p ∙ (λ i. behind so_far.sent (all_served service (sym k.server i) (here i))) in
        record {
          stream = k.stream ++ r.piece;
          read = consumes_more before after later k.stream r.piece k.read r.consumes;
          sent = subst (λ (q : Run S). Appends old newer q.sent) (sym then_here) (appends_more old new newer so_far.sent _ k.sent l.sent);
          server = l.server ∙ ap (λ (q : Run S). q.served) (sym then_here);
          left = sym (left_is service (length more) w more ∙ ap (λ i. drop i more) (sym l.used_all)) ∙ ap (λ (q : Run S). q.left) (sym then_here);
        }

    -- it breaks off while a piece is served
    pub breaks_within : (later : Option (List ℕ)) (more : List ℕ) (some : Bool) (u : Served S) → Reads after later pending more some → InPart service w more u → InPartOf service v before later u
    breaks_within later more some u r (m, e) =
        let so_far : Run S = all_served service v k.stream in
        let p = in_pieces service (length k.stream) v k.stream r.piece in
        let here : so_far.left ++ r.piece ≡ more = rw (← k.left) (sym r.pending) in
        record {
          stream = k.stream ++ r.piece;
          read = consumes_more before after later k.stream r.piece k.read r.consumes;
          in_part = (p.0 + m, e ∙ ap (λ (q : Run S). q.served) (sym (p.1 m ∙ (λ i. behind so_far.sent (serving service m (sym k.server i) (here i))))));
        }

-- known input that is read to its end is what was read
whole : (before after : Option (List ℕ)) (s : List ℕ) → Consumes before after s → IsAtEnd after → (P : List ℕ → Type 0) → P s → IfSome before P
whole None after s c e P p = tt
whole (Some xs) None s c e P p = absurd c
whole (Some xs) (Some ys) s c e P p = subst P (sym (c ∙ rw e (append-nil s))) p

-- over a pile, to the end or not
module _ {X E : Type 0} (service : Service State) (p q : Pile) (w : Served State) (before after old new : Option (List ℕ)) (this : q ≡ w.session.pile) where
  pub all_of_it : (r : Result X E) → OnOk r (ToTheEnd service (fresh p) before after old new w) → OnOk r (IfSome before (λ stream. Serves service p stream old new q))
  all_of_it (Err e) t = tt
  all_of_it (Ok x) t = whole before after t.stream t.read t.end (λ stream. Serves service p stream old new q) (record { sent = t.sent; pile = this ∙ ap (λ (u : Served State). u.session.pile) t.server })

  pub whatever_comes : (r : Result X E) → OnOk r (ToTheEnd service (fresh p) before after old new w) → OnOk r (ServesAll service p before after old new q)
  whatever_comes (Err e) t = tt
  whatever_comes (Ok x) t = record { stream = t.stream; read = t.read; end = t.end; serves = record { sent = t.sent; pile = this ∙ ap (λ (u : Served State). u.session.pile) t.server } }

  pub all_in_turn : (r : Result X E) → OnOk r (ToTheEnd service (fresh p) before after old new w) → OnOk r (IfSome before (λ stream. SentInTurn service (fresh p) stream old new))
  all_in_turn (Err e) t = tt
  all_in_turn (Ok x) t = whole before after t.stream t.read t.end (λ stream. SentInTurn service (fresh p) stream old new) (in_items service (fresh p) t.stream old new t.sent)

pub broken_off : {X E : Type 0} (service : Service State) (p q : Pile) (w : Served State) (before after : Option (List ℕ)) → q ≡ w.session.pile → (r : Result X E)
    → OnErr r (InPartOf service (fresh p) before after w) → OnErr r (BreaksOff service p before after q)
broken_off service p q w before after this (Ok x) t = tt
broken_off service p q w before after this (Err e) t = record { stream = t.stream; read = t.read; server = w; in_part = t.in_part; pile = this }
