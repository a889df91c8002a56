use Prim.Native.Char.{code}
use Rattle.std.proofs.Common.{◌≡◌, ◌≢◌, ℕ, ◌+◌, ◌*◌, Bool, true, false, ◌&&◌, List, [], ◌∷◌, ◌++◌, Some, None, Option, refl, subst, ◌∙◌, ap, arith}
use Rattle.std.specs.List.{AllByRecursion}
use Rattle.std.specs.Option.{option_and_then}
use Rattle.std.specs.Bool.{Decides}
use Rattle.std.specs.Option.{IsSome, is_some}
use Rattle.std.proofs.lemmas.Bool.Decides.{nat_tests}
use Rattle.packets.specs.Digits.{digit, number, spelled}
use Rattle.packets.specs.Splits.{split_once, Lacks}
use Rattle.packets.specs.Asking.{both, addresses, all_digits}
use Rattle.packets.specs.Forms.{Span, Bytes}
use Rattle.packets.proofs.Splitting.{Split, splits, split_found}

-- no byte that is no digit stands in a number

onward : (mark n c : ℕ) (cs : List ℕ) (v : ℕ) → ((k : ℕ) → spelled k cs ≡ Some v → Lacks mark cs) → (o : Option ℕ) → digit c ≡ o
    → option_and_then (λ d. spelled (16 * n + d) cs) o ≡ Some v → Lacks mark cs × (o ≢ None)
onward mark n c cs v h None e f = cc
onward mark n c cs v h (Some d) e f = (h (16 * n + d) f, λ g. cc)

spelled_lacks : (mark n : ℕ) (cs : List ℕ) (v : ℕ) → digit mark ≡ None → spelled n cs ≡ Some v → Lacks mark cs
spelled_lacks mark n [] v q e = tt
spelled_lacks mark n (c ∷ cs) v q e =
    let t = onward mark n c cs v (λ k. spelled_lacks mark k cs v q) (digit c) refl e in
    (λ f. t.1 (ap digit f ∙ q), t.0)

number_lacks : (mark : ℕ) (cs : List ℕ) (v : ℕ) → digit mark ≡ None → number cs ≡ Some v → Lacks mark cs
number_lacks mark cs v q e = spelled_lacks mark 0 cs v q (grind (arith, nat_tests))

-- a span is found as what it is

both_some : (o p : Option ℕ) (first count : ℕ) → both o p ≡ Some (first, count) → (o ≡ Some first) × (p ≡ Some count)
both_some None p first count e = cc
both_some (Some a) None first count e = cc
both_some (Some a) (Some b) first count e = let q : ◌≡◌ {A = ℕ × ℕ} (a, b) (first, count) = cc in (ap Some (ap (λ p. p.0) q), ap Some (ap (λ p. p.1) q))

pub span_found : (text : List ℕ) (first count : ℕ) → Span text first count → addresses text ≡ Some (first, count)
span_found text first count s = rw (s.is, split_found (code ",") s.a s.l (number_lacks (code ",") s.a first refl s.first_is), s.first_is, s.count_is) refl

pub found_span : (text : List ℕ) (first count : ℕ) → addresses text ≡ Some (first, count) → Span text first count
found_span text first count e = step (split_once (code ",") text) (splits (code ",") text) e
  where
    step : (w : Option (List ℕ × List ℕ)) → Split (code ",") text w → option_and_then (λ p. both (number p.0) (number p.1)) w ≡ Some (first, count) → Span text first count
    step None s e = cc
    step (Some p) s e = let t = both_some (number p.0) (number p.1) first count e in record { a = p.0; l = p.1; is = s.1; first_is = t.0; count_is = t.1 }

lacks_append : (mark : ℕ) (xs ys : List ℕ) → Lacks mark xs → Lacks mark ys → Lacks mark (xs ++ ys)
lacks_append mark [] ys h k = k
lacks_append mark (x ∷ xs) ys h k = (h.0, lacks_append mark xs ys h.1 k)

span_lacks : (text : List ℕ) (first count : ℕ) → Span text first count → Lacks (code ":") text
span_lacks text first count s = rw s.is (lacks_append (code ":") s.a (code "," ∷ s.l) (number_lacks (code ":") s.a first refl s.first_is) ((λ e. omega (arith, e)), number_lacks (code ":") s.l count refl s.count_is))

-- so are the digits of bytes

all_digits_is : (cs : List ℕ) → Decides (all_digits cs) (AllByRecursion (λ c. IsSome (digit c)) cs)
all_digits_is [] = (λ h. tt, λ h. refl)
all_digits_is (c ∷ cs) = step (is_some (digit c)) (all_digits_is cs)
  where
    step : (b : Bool) → Decides (all_digits cs) (AllByRecursion (λ c. IsSome (digit c)) cs) → Decides (b && all_digits cs) ((b ≡ true) × AllByRecursion (λ c. IsSome (digit c)) cs)
    step false d = (λ h. cc, λ h. h.0)
    step true d = (λ h. (refl, d.0 h), λ h. d.1 h.1)

pub bytes_found : (text : List ℕ) (first count : ℕ) (digits : List ℕ) → Bytes text first count digits
    → (front : List ℕ) × (split_once (code ":") text ≡ Some (front, digits)) × (addresses front ≡ Some (first, count)) × (all_digits digits ≡ true)
bytes_found text first count digits b = (b.front, rw b.is (split_found (code ":") b.front digits (span_lacks b.front first count b.span)), span_found b.front first count b.span, (all_digits_is digits).1 b.are_digits)

pub found_bytes : (text front : List ℕ) (first count : ℕ) (digits : List ℕ) → split_once (code ":") text ≡ Some (front, digits) → addresses front ≡ Some (first, count) → all_digits digits ≡ true
    → Bytes text first count digits
found_bytes text front first count digits e f h = record {
  front = front;
  is = (subst (Split (code ":") text) e (splits (code ":") text)).1;
  span = found_span front first count f;
  are_digits = (all_digits_is digits).0 h;
}
