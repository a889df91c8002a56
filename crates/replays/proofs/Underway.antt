use Rattle.std.proofs.Common.{◌≡◌, ℕ, suc, ◌+◌, ◌<◌, ◌≤◌, List, [], ◌∷◌, ◌++◌, length, take, drop, set, get_or, refl, sym, ap, ◌∙◌, arith, add-one, append_assoc, append-nil, drop-cons, drop-set-lt, take_all, drop_of_length-le, take-append-drop}
use Rattle.std.proofs.lemmas.Grind.{take-set_at}
use Rattle.sessions.specs.Services.{Service}
use Rattle.replays.specs.Replays.{Call, Place, Stand, Played, played, placed_first, replayed, Steps}

-- A replay that is under way: what has come so far, and what is left to be played.

abbrev pub front : {S : Type 0} → List Place → List Place × Stand S → List Place × Stand S
front places rest = (places ++ rest.0, rest.1)

module _ {S : Type 0} (service : Service S) (start : Stand S) (cs : List Call) (before : List Place) where
  abbrev pub Underway : List Place → Stand S → ℕ → Type 0
  Underway ts g n = replayed service start cs before ≡ front (take n ts) (replayed service g (drop n cs) (drop n ts))

  pub played_on : (ts : List Place) (g h : Stand S) (n : ℕ) (c : Call) (old new : Place) → n < length cs → n < length ts → get_or cs n c ≡ c → get_or ts n old ≡ old
      → Steps service g c old new h → Underway ts g n → Underway (set ts n new) h (n + 1)
  played_on ts g h n c old new in_calls in_places call place s u = u ∙ rw (drop-cons cs n c in_calls, drop-cons ts n old in_places, call, place) (sym ahead)
    where
      one : Played S
      one = played service g c old

      rest : List Place × Stand S
      rest = replayed service one.stand (drop (suc n) cs) (drop (suc n) ts)

      ahead : front (take (n + 1) (set ts n new)) (replayed service h (drop (n + 1) cs) (drop (n + 1) (set ts n new))) ≡ front (take n ts) (placed_first one rest)
      ahead =
          let taken : take (n + 1) (set ts n new) ≡ take n ts ++ (one.place ∷ []) = rw (← s.place) (take-set_at ts n (n + 1) new refl in_places) in
          let left : drop (n + 1) (set ts n new) ≡ drop (suc n) ts = rw add-one (drop-set-lt (suc n) ts n new (omega arith)) in
          rw (taken, left, add-one, s.stand) (ap (λ places. (places, rest.1)) (append_assoc (take n ts) (one.place ∷ []) rest.0))

  pub played_out : (ts : List Place) (g : Stand S) (n : ℕ) → length cs ≤ n → Underway ts g n → replayed service start cs before ≡ (ts, g)
  played_out ts g n few u = u ∙ rw (drop_of_length-le cs few) (ap (λ xs. (xs, g)) (take-append-drop n ts))

  pub places_out : (ts : List Place) (g : Stand S) (n : ℕ) → length ts ≤ n → Underway ts g n → replayed service start cs before ≡ (ts, g)
  places_out ts g n few u = u ∙ rw (drop_of_length-le ts few, take_all n ts few) (none_left (drop n cs))
    where
      none_left : (ds : List Call) → front ts (replayed service g ds []) ≡ (ts, g)
      none_left [] = ap (λ xs. (xs, g)) (append-nil ts)
      none_left (d ∷ ds) = ap (λ xs. (xs, g)) (append-nil ts)
