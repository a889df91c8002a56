use Rattle.std.proofs.Common.{◌≡◌, ℕ, zero, suc, ◌+◌, ◌<◌, List, [], ◌∷◌, length, slice_index, Some, None, Ok, Err, Option, refl, arith, add-zero}
use Rattle.spaces.specs.declared.fault.Fault.{Fault}
use Rattle.spaces.specs.Maps.{Answer, Map}
use Rattle.spaces.specs.Reads.{Got, span, got, then_got}
use Rattle.sessions.specs.Shows.{Shows}

-- What a read gets is what its map has, said in two ways.

module _ (m : Map) where
  abbrev pub ShowsGot : ℕ → ℕ → Got → Type 0
  ShowsGot first count g = Shows m first count g.bytes g.fault

  one_more : (first count b : ℕ) (bytes : List ℕ) (met : Option Fault) → m first ≡ Ok b → Shows m (suc first) count bytes met
      → Shows m first (suc count) (b ∷ bytes) met
  one_more first count b bytes met e s = record {
    each = each;
    whole = λ n. grind (arith, s.whole n);
    stops = λ f o. let t = s.stops f o in let q : first + suc (length bytes) ≡ suc first + length bytes = omega arith in (omega (arith, t.0), rw q t.1);
  }
    where
      each : (i : ℕ) → i < length (b ∷ bytes) → m (first + i) ≡ Ok (slice_index (b ∷ bytes) i)
      each zero l = rw add-zero e
      each (suc i) l = let q : first + suc i ≡ suc first + i = omega arith in rw q (s.each i (omega arith))

  pub shows_got : (first count : ℕ) → ShowsGot first count (got m (span first count))
  shows_got first zero = record { each = λ i l. absurd (omega arith); whole = λ n. refl; stops = λ f o. cc }
  shows_got first (suc count) = step (m first) refl (shows_got (suc first) count)
    where
      step : (w : Answer) → m first ≡ w → ShowsGot (suc first) count (got m (span (suc first) count)) → ShowsGot first (suc count) (then_got w (got m (span (suc first) count)))
      step (Ok b) e s = one_more first count b _ _ e s
      step (Err f) e s = record { each = λ i l. absurd (omega arith); whole = λ n. cc; stops = λ g o. (omega arith, let q : f ≡ g = cc in rw (add-zero, ← q) e) }

  pub got_shows : (first count : ℕ) (bytes : List ℕ) (met : Option Fault) → Shows m first count bytes met → got m (span first count) ≡ record { bytes = bytes; fault = met }
  got_shows first zero [] None s = refl
  got_shows first zero (b ∷ bytes) None s = let n = s.whole refl in absurd (omega arith)
  got_shows first zero bytes (Some f) s = let t = s.stops f refl in absurd (omega (arith, t.0))
  got_shows first (suc count) [] None s = let n = s.whole refl in absurd (omega arith)
  got_shows first (suc count) [] (Some f) s = let t = rw add-zero at (s.stops f refl).1 in rw t refl
  got_shows first (suc count) (b ∷ bytes) met s =
      let e : m first ≡ Ok b = rw add-zero at (s.each zero (omega arith)) in
      let ih = got_shows (suc first) count bytes met (record {
        each = λ i l. let q : suc first + i ≡ first + suc i = omega arith in rw q (s.each (suc i) (omega arith));
        whole = λ n. let w = s.whole n in omega arith;
        stops = λ f o. let t = s.stops f o in let q : suc first + length bytes ≡ first + suc (length bytes) = omega arith in (omega (arith, t.0), rw q t.1);
      }) in
      cc
