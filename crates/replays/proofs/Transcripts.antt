use Rattle.std.proofs.Common.{◌≡◌, ℕ, zero, suc, Bool, true, false, List, [], ◌∷◌, take, refl, subst, sym}
use Rattle.spaces.specs.Piles.{Pile, Lawful}
use Rattle.sessions.specs.States.{State}
use Rattle.sessions.specs.Histories.{History}
use Rattle.sessions.specs.Answers.{after, applied_to}
use Rattle.sessions.specs.Services.{pile_service}
use Rattle.sessions.specs.Promises.{Kept}
use Rattle.replays.specs.Replays.{Call, hear, answer, apply, Place, Stand, Played, played, played_by, replayed, event, transcript, begun, KeptAllAlong}
use Rattle.sessions.proofs.Keeping.{kept_new}
use Rattle.sessions.proofs.Calls.{keeps_heard, keeps_answered, keeps_applied}

-- The promise holds at every point of a replay, since each of its calls keeps it.

module _ (p : Pile) where
  abbrev KeptBy : History → Call → Played State → Type 0
  KeptBy h c one = Kept p (event c one.place.outcome one.place.frame h) one.stand.state

  kept_by : (h : History) (owes : Bool) (s : State) (c : Call) (buffer : List ℕ) → Kept p h s → KeptBy h c (played_by pile_service owes s c buffer)
  kept_by h false s (hear received) buffer k = keeps_heard s s received refl p h k
  kept_by h false s (answer payload) buffer k = k
  kept_by h false s (apply file) buffer k = keeps_applied s (applied_to s file) file _ (record { answer = refl; session = refl }) p h k
  kept_by h true s (hear received) buffer k = k
  kept_by h true s (answer payload) buffer k = keeps_answered s (after s payload) payload buffer _ _ (record { how_many = refl; buffer_is = refl; session = refl }) p h k
  kept_by h true s (apply file) buffer k = keeps_applied s (applied_to s file) file _ (record { answer = refl; session = refl }) p h k

  kept_to_the_end : (h : History) (g : Stand State) (cs : List Call) (places : List Place) → Kept p h g.state → Kept p (transcript h cs (replayed pile_service g cs places).0) (replayed pile_service g cs places).1.state
  kept_to_the_end h g [] places k = k
  kept_to_the_end h g (c ∷ cs) [] k = k
  kept_to_the_end h g (c ∷ cs) (place ∷ places) k =
      let one = played pile_service g c place in
      kept_to_the_end (event c one.place.outcome one.place.frame h) one.stand cs places (kept_by h g.owes g.state c place.frame k)

  -- the transcript of the first calls does not depend on those behind them
  first_calls : (n : ℕ) (h : History) (g : Stand State) (cs : List Call) (places : List Place) → transcript h (take n cs) (replayed pile_service g (take n cs) places).0 ≡ transcript h (take n cs) (replayed pile_service g cs places).0
  first_calls zero h g cs places = refl
  first_calls (suc n) h g [] places = refl
  first_calls (suc n) h g (c ∷ cs) [] = refl
  first_calls (suc n) h g (c ∷ cs) (place ∷ places) = first_calls n (event c (played pile_service g c place).place.outcome (played pile_service g c place).place.frame h) (played pile_service g c place).stand cs places

  pub kept_all_along : Lawful p → (cs : List Call) (before after : List Place) → after ≡ (replayed pile_service (begun p) cs before).0 → KeptAllAlong p cs before after
  kept_all_along l cs old new q n =
      subst (λ places. Kept p (transcript [] (take n cs) places) (replayed pile_service (begun p) (take n cs) old).1.state) (sym q)
      (subst (λ h. Kept p h (replayed pile_service (begun p) (take n cs) old).1.state) (first_calls n [] (begun p) cs old)
      (kept_to_the_end [] (begun p) (take n cs) old (kept_new p l)))
