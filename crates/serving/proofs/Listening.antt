use Rattle.std.proofs.Common.{◌≡◌, ◌≢◌, ℕ, ◌+◌, ◌-◌, ◌<◌, ◌≤◌, List, [], ◌++◌, length, drop, Some, None, Option, sym, subst, ap, ◌∙◌, inl, inr, arith, append_assoc}
use Rattle.std.proofs.lemmas.List.{length-drop, drop-drop, append-nil}
use Rattle.std.specs.Io.KnownBytes.{Appends}
use Rattle.packets.specs.Items.{Heard, unfinished, said}
use Rattle.packets.specs.Hearing.{heard}
use Rattle.packets.proofs.Hearings.{hears}
use Rattle.sessions.specs.Services.{Service}
use Rattle.serving.specs.Serving.{Served, Turn, sends, Run, behind, serving, all_served}
use Rattle.serving.specs.Words.{Turns, Listens, InPart, SentInTurn}
use Rattle.packets.proofs.Streaming.{whole_or_not}
use Rattle.serving.proofs.Serving.{whole_uses, split, turn, all_done, each_item}

-- Items of the bytes received that are served one behind the other.

pub appends_more : (o p q : Option (List ℕ)) (xs ys : List ℕ) → Appends o p xs → Appends p q ys → Appends o q (xs ++ ys)
appends_more None p q xs ys a b = tt
appends_more (Some o) None q xs ys a b = absurd a
appends_more (Some o) (Some p) None xs ys a b = absurd b
appends_more (Some o) (Some p) (Some q) xs ys a b = rw (b, a) (append_assoc o xs ys)

-- what uses nothing is unfinished
unused : (s : List ℕ) → (said (heard s)).used ≡ 0 → heard s ≡ unfinished
unused s e = elim (whole_or_not (heard s)) [ inl u ↦ u | inr w ↦ absurd (omega (arith, whole_uses s w)) ]

used_whole : (s : List ℕ) → 0 < (said (heard s)).used → heard s ≢ unfinished
used_whole s l u = let e = ap (λ (i : Heard). (said i).used) u in omega arith

-- some turns over the bytes received, of which these are used
pub record SoFar {S : Type 0} (service : Service S) (v : Served S) (received : List ℕ) (old new : Option (List ℕ)) (used : ℕ) (w : Served S) : Type 0 where
  pub turns : ℕ
  pub sent : List ℕ
  pub run : serving service turns v received ≡ record { sent = sent; served = w; left = drop used received }
  pub appends : Appends old new sent
  pub within : used ≤ length received

module _ {S : Type 0} (service : Service S) (v : Served S) (received : List ℕ) (old : Option (List ℕ)) where
  module _ (new : Option (List ℕ)) (used : ℕ) (w : Served S) (f : SoFar service v received old new used w) where
    abbrev rest : List ℕ
    rest = drop used received

    abbrev next : Turn S
    next = sends service w (heard rest)

    one_more : heard rest ≢ unfinished → serving service (f.turns + 1) v received ≡ record { sent = f.sent ++ next.sent; served = next.served; left = drop (said (heard rest)).used rest }
    one_more whole =
        let r : Run S = record { sent = f.sent; served = w; left = rest } in
        split service f.turns 1 v received
        ∙ ap (λ (q : Run S). behind q.sent (serving service 1 q.served q.left)) f.run
        ∙ ap (behind f.sent) (turn service 0 w rest whole)
        ∙ (let e = append-nil next.sent in λ i. record { sent = f.sent ++ e i; served = next.served; left = drop (said (heard rest)).used rest })

    pub more : (newer : Option (List ℕ)) (n : ℕ) (u : Served S) → Turns service w rest new newer n u → 0 < n → SoFar service v received old newer (used + n) u
    more newer n u t some =
        let whole : heard rest ≢ unfinished = used_whole rest (rw (← t.used_by_it) some) in
        let d = length-drop used received in
        let within = (hears rest).within in
        record {
          turns = f.turns + 1;
          sent = f.sent ++ next.sent;
          run = one_more whole ∙ (let e = t.server in let l : drop (said (heard rest)).used rest ≡ drop (used + n) received = rw (← t.used_by_it) (drop-drop n used received) in λ i. record { sent = f.sent ++ next.sent; served = sym e i; left = l i });
          appends = appends_more old new newer f.sent next.sent f.appends t.sent;
          within = omega (arith, t.used_by_it, d, within, f.within);
        }

    pub stops : (newer : Option (List ℕ)) (u : Served S) → Turns service w rest new newer 0 u → Listens service v received old newer used u
    stops newer u t =
        let idle : heard rest ≡ unfinished = unused rest (sym t.used_by_it) in
        let done : all_served service v received ≡ record { sent = f.sent; served = w; left = rest } = all_done service f.turns v received (ap (λ (q : Run S). heard q.left) f.run ∙ idle) ∙ f.run in
        let d = length-drop used received in
        let within = f.within in
        record {
          sent = subst (λ (q : Run S). Appends old newer q.sent) (sym done) (rw append-nil at (appends_more old new newer f.sent [] f.appends (rw idle at t.sent)));
          used_all = (let e : used ≡ length received - length rest = omega arith in e) ∙ ap (λ (q : Run S). length received - length q.left) (sym done);
          server = t.server ∙ ap (λ (i : Heard). (sends service w i).served) idle ∙ ap (λ (q : Run S). q.served) (sym done);
        }

    pub fails : (u : Served S) → u ≡ next.served → InPart service v received u
    fails u e = elim (whole_or_not (heard rest)) [
      | inl idle ↦ (f.turns, e ∙ ap (λ (i : Heard). (sends service w i).served) idle ∙ ap (λ (q : Run S). q.served) (sym f.run))
      | inr whole ↦ (f.turns + 1, e ∙ ap (λ (q : Run S). q.served) (sym (one_more whole)))
    ]

-- the items of the stream one behind the other
pub in_items : {S : Type 0} (service : Service S) (v : Served S) (stream : List ℕ) (old new : Option (List ℕ)) → Appends old new (all_served service v stream).sent → SentInTurn service v stream old new
in_items {S = S} service v stream old new a items rest runs = subst (λ (r : Run S). Appends old new r.sent) (each_item service (length stream) v stream items rest (omega arith) runs) a
