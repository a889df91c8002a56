use Rattle.std.proofs.Common.{◌≡◌, ℕ, ◌+◌, ◌-◌, ◌<◌, ◌≤◌, List, [], ◌∷◌, ◌++◌, length, take, drop, set, Some, Ok, Err, Option, refl, sym, ap, ◌∙◌, arith}
use Rattle.std.specs.Option.{option_map}
use Rattle.std.proofs.lemmas.Grind.{common_steps}
use Rattle.std.proofs.lemmas.List.{append-nil, append_assoc, length-take-le, length-drop, length-append, take-append-drop, take_at, drop_at, drop-drop, drop-append-le}
use borrow.Rule.Slice.PartMut.{put_mid, mid_of, same_len_mid}
use Rattle.spaces.specs.declared.fault.Fault.{Fault}
use Rattle.spaces.specs.Maps.{Map, climbed, raised}
use Rattle.spaces.specs.Reads.{span, got, most, room, Fills}
use Rattle.spaces.proofs.Spans.{onto, whole, span_more, span_over, got_alike, got_over, front, got_raised}

-- A buffer is filled a part at a time.

-- a fill under way: n bytes are placed, the rest of the buffer is as it was, and what is still to be read goes behind them
pub record Filled (m : Map) (first n : ℕ) (before now : List ℕ) : Type 0 where
  pub long : length now ≡ length before
  pub within : n ≤ most first before
  pub rest : drop n now ≡ drop n before
  pub so_far : got m (room first before) ≡ onto (take n now) (got m (span (first + n) (most first before - n)))

-- what a fill placed, and why it ended
pub record Placed (m : Map) (at : ℕ) (before after : List ℕ) (r : ℕ × Option Fault) : Type 0 where
  pub long : length after ≡ length before
  pub few : r.0 ≤ length before
  pub bytes : got m (span at r.0) ≡ whole (take r.0 after)
  pub rest : drop r.0 after ≡ drop r.0 before
  pub ends : r.0 < most at before → (f : Fault) × (r.1 ≡ Some f) × (m (at + r.0) ≡ Err f)

pub placed : (m : Map) (at : ℕ) (before after : List ℕ) (r : ℕ × Option Fault) → Fills m at before after r → Placed m at before after r
placed m at before after r f =
    let t = front m at (most at before) in
    let few = t.few in
    let count = f.count in
    record {
      long = ap length f.buffer ∙ grind (arith, length-append, length-drop);
      few = omega arith;
      bytes = rw (f.count, f.buffer, take_at (got m (room at before)).bytes _ _ refl) t.front;
      rest = ap (drop r.0) f.buffer ∙ drop_at (got m (room at before)).bytes _ r.0 (sym f.count);
      ends = λ h. let e = t.ends (omega arith) in (e.0, f.fault ∙ e.1, ap (λ (n : ℕ). m (at + n)) f.count ∙ e.2);
    }

-- behind what was placed in a part, the buffer is as it was
pub behind : (m : Map) (at n k : ℕ) (now part : List ℕ) (r : ℕ × Option Fault) → Placed m at (mid_of n k now) part r → n ≤ length now → drop (n + r.0) (put_mid n k now part) ≡ drop (n + r.0) now
behind m at n k now part r p h =
    let few = p.few in
    let long = p.long in
    let left : drop r.0 part ++ drop k (drop n now) ≡ drop r.0 (drop n now) =
    rw p.rest (sym (drop-append-le r.0 (mid_of n k now) (drop k (drop n now)) p.few) ∙ ap (drop r.0) (take-append-drop k (drop n now))) in
    sym (drop-drop r.0 n (put_mid n k now part)) ∙ ap (drop r.0) (drop_at (take n now) _ n (length-take-le n now h))
    ∙ drop-append-le r.0 part (drop k (drop n now)) (omega arith) ∙ left ∙ drop-drop r.0 n now

module _ (m : Map) (first n : ℕ) (before now : List ℕ) (so : Filled m first n before now) where
  -- the next address has a fault
  pub stopped : (f : Fault) → n < most first before → m (first + n) ≡ Err f → Fills m first before now (n, Some f)
  stopped f h e =
      let all : got m (room first before) ≡ record { bytes = take n now; fault = Some f } = so.so_far ∙ rw (span_more (first + n) (most first before - n) (omega arith), e, append-nil) in
      record { count = rw all (omega (arith, length-take-le n now)); fault = rw all; buffer = rw all (grind (arith, so.rest, take-append-drop n now)) }

  -- so many addresses more have bytes, which are placed
  pub more : (k : ℕ) (bs then : List ℕ) → n + k ≤ most first before → got m (span (first + n) k) ≡ whole bs
      → length then ≡ length now → take (n + k) then ≡ take n now ++ bs → drop (n + k) then ≡ drop (n + k) now → Filled m first (n + k) before then
  more k bs then h e l front rest =
      let count : most first before - n ≡ k + (most first before - (n + k)) = omega arith in
      let place : first + n + k ≡ first + (n + k) = omega arith in
      let behind : got m (span (first + n) (most first before - n)) ≡ onto bs (got m (span (first + (n + k)) (most first before - (n + k)))) =
      ap (λ (x : ℕ). got m (span (first + n) x)) count ∙ ap (got m) (span_over (first + n) k _) ∙ got_over m (span (first + n) k) _ bs e ∙ ap (λ (x : ℕ). onto bs (got m (span x (most first before - (n + k))))) place in
      record {
        long = l ∙ so.long;
        within = h;
        rest = rest ∙ sym (drop-drop k n now) ∙ ap (drop k) so.rest ∙ drop-drop k n before;
        so_far = rw front (so.so_far ∙ ap (onto (take n now)) behind ∙ grind (arith, append_assoc));
      }

  -- the next address has a byte
  pub one_more : (b : ℕ) → n < most first before → m (first + n) ≡ Ok b → Filled m first (n + 1) before (set now n b)
  one_more b h e = let l = so.long in more 1 (b ∷ []) (set now n b) (omega arith) (grind arith) (grind (arith, common_steps)) (grind (arith, common_steps)) (grind (arith, common_steps))

  pub part_long : (k : ℕ) → n + k ≤ most first before → length (mid_of n k now) ≡ k
  part_long k h = length-take-le k (drop n now) (let l = so.long in rw (length-drop n now) (omega arith))

-- A part of k bytes is filled next.
module _ (m : Map) (first n k : ℕ) (before now part : List ℕ) (r : ℕ × Option Fault) (so : Filled m first n before now) (fits : n + k ≤ most first before)
    (f : Fills m (first + n) (mid_of n k now) part r) where
  p : Placed m (first + n) (mid_of n k now) part r
  p = placed m (first + n) (mid_of n k now) part r f

  pub part_filled : Filled m first (n + r.0) before (put_mid n k now part)
  part_filled =
      let l = part_long m first n before now so k fits in
      let few = p.few in
      let long = p.long in
      let same = so.long in
      more m first n before now so r.0 (take r.0 part) (put_mid n k now part) (omega arith) p.bytes (same_len_mid n k now part p.long) (grind (arith, common_steps)) (behind m (first + n) n k now part r p (omega arith))

  pub part_stopped : r.0 < k → Fills m first before (put_mid n k now part) (n + r.0, r.1)
  part_stopped h =
      let l = part_long m first n before now so k fits in
      let e = p.ends (omega arith) in
      rw (e.1) (stopped m first (n + r.0) before (put_mid n k now part) part_filled (e.0) (omega arith) (grind (arith, e.2)))

-- a fill of a map is one of any map that is alike from there on
pub filled_alike : (m n : Map) (a b : ℕ) (before after : List ℕ) (r : ℕ × Option Fault)
    → ((i : ℕ) → i < length before → m (a + i) ≡ n (b + i)) → most a before ≡ most b before → Fills n b before after r → Fills m a before after r
filled_alike m n a b before after r h same f =
    let e : got m (room a before) ≡ got n (room b before) = rw same (got_alike m n a b (most b before) (λ i k. h i (omega arith))) in
    record { count = rw e f.count; fault = rw e f.fault; buffer = rw e f.buffer }

-- what a layer passes up
pub filled_raised : (m : Map) (first : ℕ) (before after : List ℕ) (r : ℕ × Option Fault) (o : Option Fault) → o ≡ option_map climbed r.1
    → Fills m first before after r → Fills (λ a. raised (m a)) first before after (r.0, o)
filled_raised m first before after r o e f = let g = got_raised m (room first before) in grind arith
