use Rattle.std.proofs.Common.{◌≡◌, ℕ, zero, suc, ◌+◌, ◌-◌, ◌<◌, ◌≤◌, List, [], ◌∷◌, ◌++◌, length, Some, None, Ok, Err, refl, ap, arith}
use Rattle.std.specs.Option.{option_map}
use Rattle.spaces.specs.declared.fault.Fault.{Fault}
use Rattle.spaces.specs.Maps.{Answer, Map, climbed, raised}
use Rattle.spaces.specs.Reads.{span, Got, then_got, got}

-- Reads of consecutive addresses.

-- bytes in front of what a read gives
abbrev pub onto : List ℕ → Got → Got
onto bs g = record { bytes = bs ++ g.bytes; fault = g.fault }

-- bytes, and no fault
abbrev pub whole : List ℕ → Got
whole bs = record { bytes = bs; fault = None }

pub span_more : (a n : ℕ) → 0 < n → span a n ≡ a ∷ span (a + 1) (n - 1)
span_more a zero h = absurd (omega arith)
span_more a (suc n) h = grind arith

pub span_over : (a n k : ℕ) → span a (n + k) ≡ span a n ++ span (a + n) k
span_over a zero k = grind arith
span_over a (suc n) k =
    let count : suc n + k ≡ suc (n + k) = omega arith in
    let place : a + suc n ≡ suc a + n = omega arith in
    rw (count, place) (ap (λ (xs : List ℕ). a ∷ xs) (span_over (suc a) n k))

-- maps that are alike from two addresses on give the same from there on
pub got_alike : (m n : Map) (a b k : ℕ) → ((i : ℕ) → i < k → m (a + i) ≡ n (b + i)) → got m (span a k) ≡ got n (span b k)
got_alike m n a b zero h = refl
got_alike m n a b (suc k) h =
    let ih = got_alike m n (suc a) (suc b) k (λ i j. grind (arith, h (suc i))) in
    let e : m a ≡ n b = grind (arith, h 0) in
    cc

module _ (m : Map) where
  -- behind addresses that all have bytes the others are read
  pub got_over : (xs ys : List ℕ) (bs : List ℕ) → got m xs ≡ whole bs → got m (xs ++ ys) ≡ onto bs (got m ys)
  got_over [] ys bs e = grind arith
  got_over (a ∷ xs) ys bs e = let ih = got_over xs ys in grind arith

  -- a read gives the bytes of so many addresses, and ends before its end only at one that has a fault
  pub record Front (a n : ℕ) : Type 0 where
    pub few : length (got m (span a n)).bytes ≤ n
    pub front : got m (span a (length (got m (span a n)).bytes)) ≡ whole (got m (span a n)).bytes
    pub ends : length (got m (span a n)).bytes < n → (f : Fault) × ((got m (span a n)).fault ≡ Some f) × (m (a + length (got m (span a n)).bytes) ≡ Err f)

  pub front : (a n : ℕ) → Front a n
  front a zero = record { few = omega arith; front = refl; ends = λ h. absurd (omega arith) }
  front a (suc n) = let ih = front (suc a) n in record { few = grind arith; front = grind arith; ends = step (m a) refl ih }
    where
      step : (w : Answer) → m a ≡ w → Front (suc a) n → length (then_got w (got m (span (suc a) n))).bytes < suc n
          → (f : Fault) × ((then_got w (got m (span (suc a) n))).fault ≡ Some f) × (m (a + length (then_got w (got m (span (suc a) n))).bytes) ≡ Err f)
      step (Ok b) e ih h = let t = ih.ends (omega arith) in (t.0, t.1, grind (arith, t.2))
      step (Err f) e ih h = (f, refl, grind arith)

  -- what a layer passes up
  pub got_raised : (xs : List ℕ) → got (λ a. raised (m a)) xs ≡ record { bytes = (got m xs).bytes; fault = option_map climbed (got m xs).fault }
  got_raised [] = refl
  got_raised (a ∷ xs) = let ih = got_raised xs in grind arith
