use Rattle.std.proofs.Common.{◌≡◌, ◌≢◌, ℕ, zero, suc, ◌+◌, ◌<◌, List, [], ◌∷◌, length, drop, refl, sym, subst, ◌∙◌, ◌⊎◌, inl, inr, arith}
use Rattle.std.proofs.lemmas.List.{drop-drop, length-drop}
use Rattle.std.proofs.lemmas.List.Sums.{sum_by-cons}
use Rattle.packets.specs.Items.{Heard, unfinished, resend, ignored, wrong_sum, no_end, packet, said}
use Rattle.packets.specs.Hearing.{heard}
use Rattle.packets.specs.Streams.{Begins, nothing, no_hash_yet, no_digits_yet, minus, other, wrong, endless, good, Hears, Runs, ends, goes_on, used_by, Through, EveryStreamIsItsItems}
use Rattle.packets.proofs.Hearings.{hears}

-- whatever is whole uses something
pub uses : (s : List ℕ) (item : Heard) (rest : List ℕ) → Begins s item rest → item ≢ unfinished → 0 < (said item).used
uses s item rest nothing n = absurd (n refl)
uses s item rest (no_hash_yet bytes p) n = absurd (n refl)
uses s item rest (no_digits_yet payload digits p l) n = absurd (n refl)
uses s item rest (minus r) n = omega arith
uses s item rest (other b r h k) n = omega arith
uses s item rest (wrong payload high low r p l) n = omega arith
uses s item rest (endless bytes r h k) n = omega arith
uses s item rest (good payload high low r p l) n = omega arith

-- a stream that begins with nothing whole
at_end : (s : List ℕ) → Hears s unfinished → Through s
at_end s t = record {
  items = [];
  rest = s;
  runs = ends s t.begins;
  only = only;
  adds_up = omega arith;
  in_order = refl;
}
  where
    only : (others : List Heard) (left : List ℕ) → Runs s others left → (others ≡ []) × (left ≡ s)
    only others left (ends r b) = (refl, refl)
    only others left (goes_on stream behind r item items n b runs) = absurd (n (t.only item behind b).0)

-- a stream that begins with an item, by what comes behind it
module _ (s : List ℕ) (item : Heard) (t : Hears s item) (whole : item ≢ unfinished) where
  abbrev behind : List ℕ
  behind = drop (said item).used s

  used_more : (items : List Heard) → used_by (item ∷ items) ≡ (said item).used + used_by items
  used_more items = sum_by-cons (λ i. (said i).used) item items

  only_so : (u : Through behind) (others : List Heard) (left : List ℕ) → Runs s others left → (others ≡ item ∷ u.items) × (left ≡ u.rest)
  only_so u others left (ends r b) = absurd (whole (sym (t.only unfinished s b).0))
  only_so u others left (goes_on stream r end i items n b runs) =
      let e = t.only i r b in
      let o = u.only items left (subst (λ xs. Runs xs items left) e.1 runs) in
      (rw (e.0, o.0) refl, o.1)

  from_behind : Through behind → Through s
  from_behind u = record {
    items = item ∷ u.items;
    rest = u.rest;
    runs = goes_on s behind u.rest item u.items whole t.begins u.runs;
    only = only_so u;
    adds_up = let l = length-drop (said item).used s in omega (arith, used_more u.items, u.adds_up, t.within, l);
    in_order = u.in_order ∙ drop-drop (used_by u.items) (said item).used s ∙ rw (used_more u.items) refl;
  }

pub whole_or_not : (item : Heard) → (item ≡ unfinished) ⊎ (item ≢ unfinished)
whole_or_not unfinished = inl refl
whole_or_not resend = inr (λ e. cc)
whole_or_not ignored = inr (λ e. cc)
whole_or_not (wrong_sum used) = inr (λ e. cc)
whole_or_not no_end = inr (λ e. cc)
whole_or_not (packet payload) = inr (λ e. cc)

through : (n : ℕ) (s : List ℕ) → length s < n → Through s
through zero s h = absurd (omega arith)
through (suc n) s h = elim (whole_or_not (heard s)) [
  | inl e ↦ at_end s (subst (Hears s) e (hears s))
  | inr w ↦
      let t = hears s in
      let l = length-drop (said (heard s)).used s in
      from_behind s (heard s) t w (through n (drop (said (heard s)).used s) (omega (arith, l, t.within, uses s (heard s) (drop (said (heard s)).used s) t.begins w)))
]

pub every_stream : EveryStreamIsItsItems
every_stream s = through (length s + 1) s (omega arith)
