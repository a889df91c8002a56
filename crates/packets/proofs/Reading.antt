use Rattle.std.proofs.Common.{◌≡◌, ℕ, zero, suc, ◌+◌, ◌*◌, ◌/◌, ◌%◌, ◌^◌, ◌<◌, ◌≤◌, min, List, [], ◌∷◌, ◌++◌, length, map, take, drop, get_or, Some, None, Option, refl, ap, ◌∙◌, arith, pow-add}
use Rattle.std.specs.Option.{option_and_then}
use Rattle.std.specs.List.{AllByRecursion}
use Rattle.std.specs.Char.{to_ascii_lowercase}
use Rattle.std.proofs.lemmas.List.{length-append, length-take, take_at, take_min, length-map}
use Rattle.std.proofs.lemmas.Bool.Decides.{nat_tests}
use Rattle.packets.specs.Digits.{digit, lower, spelled, digits, number, spell, paired}

-- what holds of each element holds of those in front
pub take_each : (P : ℕ → Type 0) (n : ℕ) (xs : List ℕ) → AllByRecursion P xs → AllByRecursion P (take n xs)
take_each P zero xs h = tt
take_each P (suc n) [] h = tt
take_each P (suc n) (x ∷ xs) h = (h.0, take_each P n xs h.1)

-- Digits of either case have the same values.

either : (c : ℕ) → digit (to_ascii_lowercase c) ≡ digit c
either c = grind (arith, nat_tests)

spelled_either : (n : ℕ) (cs : List ℕ) → spelled n (map to_ascii_lowercase cs) ≡ spelled n cs
spelled_either n [] = refl
spelled_either n (c ∷ cs) = rw (either c) (step (digit c) (λ m. spelled_either m cs))
  where
    step : (o : Option ℕ) → ((m : ℕ) → spelled m (map to_ascii_lowercase cs) ≡ spelled m cs)
        → option_and_then (λ d. spelled (16 * n + d) (map to_ascii_lowercase cs)) o ≡ option_and_then (λ d. spelled (16 * n + d) cs) o
    step None h = refl
    step (Some d) h = h (16 * n + d)

pub number_either : (cs : List ℕ) → number (map to_ascii_lowercase cs) ≡ number cs
number_either cs = rw (length-map cs to_ascii_lowercase, spelled_either 0 cs) refl

-- Digits that are written are read back.

digit_lower : (n : ℕ) → n < 16 → digit (lower n) ≡ Some n
digit_lower n h = grind (arith, nat_tests)

onward : (m : ℕ) (xs ys : List ℕ) → ((n : ℕ) → spelled n (xs ++ ys) ≡ option_and_then (λ k. spelled k ys) (spelled n xs)) → (o : Option ℕ)
    → option_and_then (λ d. spelled (16 * m + d) (xs ++ ys)) o ≡ option_and_then (λ k. spelled k ys) (option_and_then (λ d. spelled (16 * m + d) xs) o)
onward m xs ys h None = refl
onward m xs ys h (Some d) = h (16 * m + d)

spelled_behind : (m : ℕ) (xs ys : List ℕ) → spelled m (xs ++ ys) ≡ option_and_then (λ n. spelled n ys) (spelled m xs)
spelled_behind m [] ys = refl
spelled_behind m (c ∷ xs) ys = onward m xs ys (λ n. spelled_behind n xs ys) (digit c)

spelled_digits : (w m n : ℕ) → n < 2 ^ (4 * w) → spelled m (digits w n) ≡ Some (2 ^ (4 * w) * m + n)
spelled_digits zero m n h = grind arith
spelled_digits (suc w) m n h =
    let p : 2 ^ (4 * suc w) ≡ 16 * 2 ^ (4 * w) = grind (arith, pow-add 2 4 (4 * w)) in
    let front = spelled_digits w m (n / 16) (omega (arith, p)) in
    let last = digit_lower (n % 16) (omega arith) in
    let split : 16 * (2 ^ (4 * w) * m + n / 16) + n % 16 ≡ 16 * 2 ^ (4 * w) * m + n = grind arith in
    spelled_behind m (digits w (n / 16)) (lower (n % 16) ∷ []) ∙ rw (front, last, p, split) refl

pub read_digits : (w n : ℕ) → n < 2 ^ (4 * w) → spelled 0 (digits w n) ≡ Some n
read_digits w n h = spelled_digits w 0 n h ∙ ap Some (omega arith)

pub length_digits : (w n : ℕ) → length (digits w n) ≡ w
length_digits zero n = refl
length_digits (suc w) n = grind (arith, length_digits w (n / 16), length-append (digits w (n / 16)) (lower (n % 16) ∷ []))

-- a number is read from its digits
pub number_digits : (w n : ℕ) → 0 < w → w ≤ 16 → n < 2 ^ (4 * w) → number (digits w n) ≡ Some n
number_digits w n h k l = grind (arith, nat_tests, length_digits w n, read_digits w n l)

-- bytes are read from theirs
pub paired_spell : (bytes : List ℕ) → AllByRecursion (λ b. b < 256) bytes → paired (spell bytes) ≡ bytes
paired_spell [] h = refl
paired_spell (b ∷ bs) h = let e = read_digits 2 b h.0 in grind (arith, paired_spell bs h.1)

by_index : (bytes : List ℕ) → ((i : ℕ) → get_or bytes i 0 < 256) → AllByRecursion (λ b. b < 256) bytes
by_index [] h = tt
by_index (b ∷ bs) h = (h 0, by_index bs (λ i. h (suc i)))

pub length_spell : (bytes : List ℕ) → length (spell bytes) ≡ 2 * length bytes
length_spell [] = refl
length_spell (b ∷ bs) = grind (arith, length_spell bs)

-- what is written in front of a buffer is read from there
pub front_back : (bytes before after : List ℕ) (n : ℕ) → n ≡ min (length bytes) (length before / 2) → after ≡ spell (take n bytes) ++ drop (2 * n) before
    → ((i : ℕ) → get_or bytes i 0 < 256) → paired (take (2 * n) after) ≡ take (length before / 2) bytes
front_back bytes before after n e f h =
    let q : n ≡ min (length before / 2) (length bytes) = omega (arith, e) in
    let k : take n bytes ≡ take (length before / 2) bytes = rw q (take_min (length before / 2) bytes) in
    let t = take_at (spell (take n bytes)) (drop (2 * n) before) (2 * n) (grind (arith, length_spell, length-take)) in
    rw (f, t) (paired_spell (take n bytes) (take_each _ n bytes (by_index bytes h))) ∙ k
