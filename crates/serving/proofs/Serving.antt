use Rattle.std.proofs.Common.{◌≡◌, ◌≢◌, ℕ, zero, suc, ◌+◌, ◌-◌, ◌<◌, ◌≤◌, List, [], ◌∷◌, ◌++◌, length, drop, refl, sym, subst, ap, ◌∙◌, inl, inr, arith, append_assoc, zero-add}
use Rattle.std.proofs.lemmas.List.{length-drop, drop-drop, append-nil}
use Rattle.packets.specs.Items.{Heard, unfinished, resend, ignored, wrong_sum, no_end, packet, said}
use Rattle.packets.specs.Hearing.{heard}
use Rattle.packets.specs.Streams.{Runs, ends, goes_on}
use Rattle.packets.proofs.Hearings.{hears}
use Rattle.packets.proofs.Streaming.{uses, whole_or_not}
use Rattle.sessions.specs.Services.{Service}
use Rattle.serving.specs.Serving.{Served, Turn, sends, Run, stopped, behind, then_on, begun, serving, all_served, in_turn}

-- Streams that are served: in pieces, and item by item.

-- whatever is whole uses something
pub whole_uses : (s : List ℕ) → heard s ≢ unfinished → 0 < (said (heard s)).used
whole_uses s n = uses s (heard s) _ (hears s).begins n

module _ {S : Type 0} (service : Service S) where
  -- nothing is served of what begins with nothing whole
  pub idle : (n : ℕ) (v : Served S) (s : List ℕ) → heard s ≡ unfinished → serving service n v s ≡ stopped v s
  idle zero v s e = refl
  idle (suc n) v s e = ap (begun service v s (serving service n)) e

  begun_whole : (v : Served S) (s : List ℕ) (run : Served S → List ℕ → Run S) (item : Heard) → item ≢ unfinished
      → begun service v s run item ≡ then_on (sends service v item) (λ w. run w (drop (said item).used s))
  begun_whole v s run unfinished n = absurd (n refl)
  begun_whole v s run resend n = refl
  begun_whole v s run ignored n = refl
  begun_whole v s run (wrong_sum used) n = refl
  begun_whole v s run no_end n = refl
  begun_whole v s run (packet payload) n = refl

  -- a turn
  pub turn : (n : ℕ) (v : Served S) (s : List ℕ) → heard s ≢ unfinished
      → serving service (suc n) v s ≡ then_on (sends service v (heard s)) (λ w. serving service n w (drop (said (heard s)).used s))
  turn n v s w = begun_whole v s (serving service n) (heard s) w

  behind_twice : (x y : List ℕ) (r : Run S) → behind x (behind y r) ≡ behind (x ++ y) r
  behind_twice x y r = let e = append_assoc x y r.sent in λ i. record { sent = sym e i; served = r.served; left = r.left }

  pub behind_stopped : (r : Run S) → behind r.sent (stopped r.served r.left) ≡ r
  behind_stopped r = let e = append-nil r.sent in λ i. record { sent = e i; served = r.served; left = r.left }

  -- some turns and then others
  pub split : (n m : ℕ) (v : Served S) (s : List ℕ) → let r : Run S = serving service n v s in serving service (n + m) v s ≡ behind r.sent (serving service m r.served r.left)
  split zero m v s = rw zero-add refl
  split (suc n) m v s =
      let e : suc n + m ≡ suc (n + m) = omega arith in
      rw e (elim (whole_or_not (heard s)) [
        | inl u ↦ rw (idle (suc (n + m)) v s u, idle (suc n) v s u, idle m v s u) refl
        | inr w ↦
            let t : Turn S = sends service v (heard s) in
            rw (turn (n + m) v s w, turn n v s w) (ap (behind t.sent) (split n m t.served (drop (said (heard s)).used s)) ∙ behind_twice t.sent _ _)
      ])

  -- more bytes behind a whole item
  pub still_heard : (s more : List ℕ) → heard s ≢ unfinished → (heard (s ++ more) ≡ heard s) × (drop (said (heard s)).used (s ++ more) ≡ drop (said (heard s)).used s ++ more)
  still_heard s more w =
      let o = (hears (s ++ more)).only (heard s) _ ((hears s).settled w more) in
      (sym o.0, ap (λ (i : Heard). drop (said i).used (s ++ more)) o.0 ∙ sym o.1)

  -- turns over a piece, and then those over the piece and what comes behind it
  pub in_pieces : (fuel : ℕ) (v : Served S) (s more : List ℕ)
      → (n : ℕ) × ((m : ℕ) → let r : Run S = serving service fuel v s in serving service (n + m) v (s ++ more) ≡ behind r.sent (serving service m r.served (r.left ++ more)))
  in_pieces zero v s more = (zero, λ m. rw zero-add refl)
  in_pieces (suc fuel) v s more = elim (whole_or_not (heard s)) [
    | inl u ↦ (zero, λ m. rw (zero-add, idle (suc fuel) v s u) refl)
    | inr w ↦
        let t : Turn S = sends service v (heard s) in
        let h = still_heard s more w in
        let w′ : heard (s ++ more) ≢ unfinished = λ e. w (sym h.0 ∙ e) in
        let ih = in_pieces fuel t.served (drop (said (heard s)).used s) more in (
          suc ih.0,
          λ m.
              let e : suc ih.0 + m ≡ suc (ih.0 + m) = omega arith in
              rw (e, turn (ih.0 + m) v (s ++ more) w′, turn fuel v s w, h.0, h.1) (ap (behind t.sent) (ih.1 m) ∙ behind_twice t.sent _ _),
        )
  ]

  -- what is left is unfinished
  pub left_unfinished : (n : ℕ) (v : Served S) (s : List ℕ) → length s ≤ n → heard (serving service n v s).left ≡ unfinished
  left_unfinished zero v [] l = refl
  left_unfinished zero v (b ∷ s) l = absurd (omega arith)
  left_unfinished (suc n) v s l = elim (whole_or_not (heard s)) [
    | inl u ↦ rw (idle (suc n) v s u) u
    | inr w ↦
        let d = length-drop (said (heard s)).used s in
        let some = whole_uses s w in
        let within = (hears s).within in
        rw (turn n v s w) (left_unfinished n (sends service v (heard s)).served (drop (said (heard s)).used s) (omega (arith, d, some, within)))
  ]

  -- it is the end of the stream
  pub left_behind : (n : ℕ) (v : Served S) (s : List ℕ) → (k : ℕ) × (k ≤ length s) × ((serving service n v s).left ≡ drop k s)
  left_behind zero v s = (0, omega arith, refl)
  left_behind (suc n) v s = elim (whole_or_not (heard s)) [
    | inl u ↦ (0, omega arith, rw (idle (suc n) v s u) refl)
    | inr w ↦
        let used : ℕ = (said (heard s)).used in
        let h = left_behind n (sends service v (heard s)).served (drop used s) in
        let d = length-drop used s in
        let within = (hears s).within in
        (used + h.0, omega (arith, d, within, h.1), rw (turn n v s w) (h.2 ∙ drop-drop h.0 used s))
  ]

  pub left_is : (n : ℕ) (v : Served S) (s : List ℕ) → let left : List ℕ = (serving service n v s).left in left ≡ drop (length s - length left) s
  left_is n v s =
      let h = left_behind n v s in
      let d = length-drop h.0 s in
      let e = ap length h.2 in
      let k : h.0 ≡ length s - length (serving service n v s).left = omega (arith, h.1) in
      h.2 ∙ ap (λ i. drop i s) k

  -- where some turns leave what is unfinished, more change nothing
  pub over : (n m : ℕ) (v : Served S) (s : List ℕ) → heard (serving service n v s).left ≡ unfinished → serving service (n + m) v s ≡ serving service n v s
  over n m v s u = split n m v s ∙ ap (behind (serving service n v s).sent) (idle m _ _ u) ∙ behind_stopped (serving service n v s)

  pub enough : (n : ℕ) (v : Served S) (s : List ℕ) → length s ≤ n → serving service n v s ≡ all_served service v s
  enough n v s l =
      let e : n ≡ length s + (n - length s) = omega arith in
      ap (λ k. serving service k v s) e ∙ over (length s) (n - length s) v s (left_unfinished (length s) v s (omega arith))

  -- where they leave what is unfinished, all is served
  pub all_done : (n : ℕ) (v : Served S) (s : List ℕ) → heard (serving service n v s).left ≡ unfinished → all_served service v s ≡ serving service n v s
  all_done n v s u = sym (enough (n + length s) v s (omega arith)) ∙ over n (length s) v s u

  pub pieces : (v : Served S) (s more : List ℕ) → let r : Run S = all_served service v s in all_served service v (s ++ more) ≡ behind r.sent (all_served service r.served (r.left ++ more))
  pieces v s more =
      let r : Run S = all_served service v s in
      let p = in_pieces (length s) v s more in
      let m : ℕ = length (s ++ more) + length (r.left ++ more) in
      sym (enough (p.0 + m) v (s ++ more) (omega arith)) ∙ p.1 m ∙ ap (behind r.sent) (enough m r.served (r.left ++ more) (omega arith))

  pub each_item : (n : ℕ) (v : Served S) (s : List ℕ) (items : List Heard) (rest : List ℕ) → length s ≤ n → Runs s items rest → serving service n v s ≡ in_turn service v items rest
  each_item n v s items rest l (ends r b) = idle n v s (sym ((hears s).only unfinished s b).0)
  each_item zero v s items rest l (goes_on stream left r item more w b runs) =
      let o = (hears s).only item left b in
      let some = whole_uses s (λ e. w (o.0 ∙ e)) in
      let within = (hears s).within in
      absurd (omega arith)
  each_item (suc n) v s items rest l (goes_on stream left r item more w b runs) =
      let o = (hears s).only item left b in
      let d = length-drop (said (heard s)).used s in
      let w′ : heard s ≢ unfinished = λ e. w (o.0 ∙ e) in
      let some = whole_uses s w′ in
      let within = (hears s).within in
      let t : Turn S = sends service v (heard s) in
      let ih = each_item n t.served (drop (said (heard s)).used s) more rest (omega (arith, d, some, within)) (subst (λ xs. Runs xs more rest) o.1 runs) in
      turn n v s w′ ∙ ap (behind t.sent) ih ∙ ap (λ (i : Heard). then_on (sends service v i) (λ u. in_turn service u more rest)) (sym o.0)
