use Prim.Native.Char.{code}
use Rattle.std.proofs.Common.{◌≡◌, ◌≢◌, ℕ, ◌+◌, ◌*◌, ◌^◌, Bool, true, false, if◌then◌else◌, List, [], ◌∷◌, ◌++◌, length, take, drop, Some, None, Ok, Err, Option, Result, nat_lt, codes, ◌==◌, refl, sym, subst, ap, ◌⊎◌, inl, inr, arith}
use Rattle.std.specs.Str.{bytes_eq}
use Rattle.std.proofs.lemmas.Bool.Decides.{nat_tests}
use Rattle.std.proofs.lemmas.List.{take-append-drop}
use Rattle.std.proofs.lemmas.Slice.Eq.{bytes_eq-Decides}
use Rattle.packets.specs.Digits.{spelled}
use Rattle.packets.specs.Splits.{split_once}
use Rattle.std.specs.Result.{MatchResult}
use Rattle.packets.specs.declared.command_refusal.CommandRefusal.{CommandRefusal}
use Rattle.packets.specs.declared.command_refusal.CommandRefusal.TheVariants.{BadForm, NoAddresses, WrongDigits, PastTheEnd}
use Rattle.packets.specs.Commands.{Asked, why_halted, read, write, registers, detach, supported, last_fault, unknown}
use Rattle.packets.specs.Asking.{addresses, all_digits, judged, read_at, write_at, write_from, deep, deepened, begins, query, setting, by_itself, asked}
use Rattle.packets.specs.Forms.{Span, Bytes, Named, named_why, named_read, named_write, named_registers, named_detach, named_thread, named_supported, named_depth, named_fault, Asks, asks_why, asks_read, asks_write, asks_registers, asks_detach, asks_thread, asks_supported, asks_depth, asks_fault, asks_other, Wrong, read_form, write_form, depth_form, read_none, write_none, write_digits, read_end, write_end}
use Rattle.packets.proofs.Spans.{span_found, found_span, bytes_found, found_bytes}

-- what an answer says of a payload
abbrev pub Fits : List ℕ → Result Asked CommandRefusal → Type 0
Fits payload answer = MatchResult answer (Asks payload) (Wrong payload)

read_fits : (text : List ℕ) (w : Option (ℕ × ℕ)) → addresses text ≡ w → Fits (code "m" ∷ text) (read_at w)
read_fits text None e = read_form text (λ first count s. let f = span_found text first count s in cc)
read_fits text (Some (first, count)) e = step (count == 0) (nat_lt (2 ^ 64) (first + count)) refl refl
  where
    s : Span text first count
    s = found_span text first count e

    step : (t u : Bool) → (count == 0) ≡ t → nat_lt (2 ^ 64) (first + count) ≡ u
        → Fits (code "m" ∷ text) (if t then Err NoAddresses else if u then Err PastTheEnd else Ok (read first count))
    step true u p q = read_none text first (subst (Span text first) (grind (arith, nat_tests)) s)
    step false true p q = read_end text first count s (grind (arith, nat_tests)) (grind (arith, nat_tests))
    step false false p q = asks_read text first count s (grind (arith, nat_tests)) (grind (arith, nat_tests))

-- bytes that are to be patched, by what the span and the digits are
module _ (text front digits : List ℕ) (e : split_once (code ":") text ≡ Some (front, digits)) where
  no_bytes : (addresses front ≡ None) ⊎ (all_digits digits ≡ false) → (first count : ℕ) (ds : List ℕ) → Bytes text first count ds → ⊥
  no_bytes o first count ds b =
      let t = bytes_found text first count ds b in
      let same : ◌≡◌ {A = List ℕ × List ℕ} (front, digits) (t.0, ds) = cc in
      let f : front ≡ t.0 = ap (λ p. p.0) same in
      let d : digits ≡ ds = ap (λ p. p.1) same in
      elim o [ inl n ↦ cc | inr n ↦ cc ]

  judged_fits : (first count : ℕ) → Bytes text first count digits → Fits (code "M" ∷ text) (judged first count (length digits == 2 * count) (write first digits))
  judged_fits first count b = step (count == 0) (length digits == 2 * count) (nat_lt (2 ^ 64) (first + count)) refl refl refl
    where
      step : (t u v : Bool) → (count == 0) ≡ t → (length digits == 2 * count) ≡ u → nat_lt (2 ^ 64) (first + count) ≡ v
          → Fits (code "M" ∷ text) (if t then Err NoAddresses else if u then (if v then Err PastTheEnd else Ok (write first digits)) else Err WrongDigits)
      step true u v p q r = write_none text first digits (subst (λ n. Bytes text first n digits) (grind (arith, nat_tests)) b)
      step false false v p q r = write_digits text first count digits b (grind (arith, nat_tests)) (grind (arith, nat_tests))
      step false true true p q r = write_end text first count digits b (grind (arith, nat_tests)) (grind (arith, nat_tests)) (grind (arith, nat_tests))
      step false true false p q r = asks_write text first count digits b (grind (arith, nat_tests)) (grind (arith, nat_tests)) (grind (arith, nat_tests))

  write_at_fits : (w : Option (ℕ × ℕ)) → addresses front ≡ w → Fits (code "M" ∷ text) (write_at w digits)
  write_at_fits None f = write_form text (no_bytes (inl f))
  write_at_fits (Some (first, count)) f = step (all_digits digits) refl
    where
      step : (t : Bool) → all_digits digits ≡ t → Fits (code "M" ∷ text) (if t then judged first count (length digits == 2 * count) (write first digits) else Err BadForm)
      step true q = judged_fits first count (found_bytes text front first count digits e f q)
      step false q = write_form text (no_bytes (inr q))

write_fits : (text : List ℕ) (w : Option (List ℕ × List ℕ)) → split_once (code ":") text ≡ w → Fits (code "M" ∷ text) (write_from w)
write_fits text None e = write_form text (λ first count ds b. let t = (bytes_found text first count ds b).1 in cc)
write_fits text (Some (front, digits)) e = write_at_fits text front digits e (addresses front) refl

-- a test, by what follows from each outcome
by_test : {X : Type 0} (P : X → Type 0) (t : Bool) (x y : X) → (t ≡ true → P x) → (t ≡ false → P y) → P (if t then x else y)
by_test P true x y h k = h refl
by_test P false x y h k = k refl

-- no payload that has a name is answered as one without

abbrev IsKnown : Result Asked CommandRefusal → Type 0
IsKnown answer = answer ≢ Ok unknown

judged_known : (first count : ℕ) (fits : Bool) (a : Asked) → a ≢ unknown → judged first count fits a ≢ Ok unknown
judged_known first count fits a h =
    by_test IsKnown (count == 0) (Err NoAddresses) _ (λ p e. cc)
    (λ p. by_test IsKnown fits _ (Err WrongDigits) (λ q. by_test IsKnown (nat_lt (2 ^ 64) (first + count)) (Err PastTheEnd) (Ok a) (λ r e. cc) (λ r e. h cc)) (λ q e. cc))

read_known : (w : Option (ℕ × ℕ)) → read_at w ≢ Ok unknown
read_known None e = cc
read_known (Some (first, count)) e = judged_known first count true (read first count) (λ e. cc) e

write_at_known : (w : Option (ℕ × ℕ)) (digits : List ℕ) → write_at w digits ≢ Ok unknown
write_at_known None digits e = cc
write_at_known (Some (first, count)) digits e =
    by_test IsKnown (all_digits digits) _ (Err BadForm) (λ p. judged_known first count (length digits == 2 * count) (write first digits) (λ e. cc)) (λ p e. cc) e

write_known : (w : Option (List ℕ × List ℕ)) → write_from w ≢ Ok unknown
write_known None e = cc
write_known (Some (front, digits)) e = write_at_known (addresses front) digits e

deep_known : (o : Option ℕ) → deep o ≢ Ok unknown
deep_known None e = cc
deep_known (Some d) e = cc

deepened_known : (text : List ℕ) → deepened text ≢ Ok unknown
deepened_known text = by_test IsKnown (length text == 2) (deep (spelled 0 text)) (Err BadForm) (λ p. deep_known (spelled 0 text)) (λ p e. cc)

known : (payload : List ℕ) → Named payload → asked payload ≢ Ok unknown
known payload named_why e = cc
known payload (named_read text) e = read_known (addresses text) e
known payload (named_write text) e = write_known (split_once (code ":") text) e
known payload named_registers e = cc
known payload named_detach e = cc
known payload (named_thread text) e = cc
known payload (named_supported text) e = cc
known payload (named_depth text) e = deepened_known text e
known payload named_fault e = cc

nameless : (payload : List ℕ) → asked payload ≡ Ok unknown → Fits payload (Ok unknown)
nameless payload e = asks_other payload (λ n. known payload n e)

begins_is : (name payload : List ℕ) → begins name payload ≡ true → payload ≡ name ++ drop (length name) payload
begins_is name payload h = let e = (bytes_eq-Decides (take (length name) payload) name).0 h in subst (λ xs. payload ≡ xs ++ drop (length name) payload) e (sym (take-append-drop (length name) payload))

deepened_fits : (text : List ℕ) → Fits (codes "Qaisle.depth:" ++ text) (deepened text)
deepened_fits text = by_test (Fits (codes "Qaisle.depth:" ++ text)) (length text == 2) (deep (spelled 0 text)) (Err BadForm)
    (λ e. step (grind (arith, nat_tests)) (spelled 0 text) refl)
    (λ e. depth_form text (λ d t. grind (arith, nat_tests)))
  where
    step : length text ≡ 2 → (o : Option ℕ) → spelled 0 text ≡ o → Fits (codes "Qaisle.depth:" ++ text) (deep o)
    step h None e = depth_form text (λ d t. let q = t.is in cc)
    step h (Some d) e = asks_depth text d (record { two = h; is = e })

query_fits : (rest : List ℕ) → Fits (code "q" ∷ rest) (query (code "q" ∷ rest))
query_fits rest = by_test (Fits (code "q" ∷ rest)) (bytes_eq (code "q" ∷ rest) (codes "qaisle.fault")) (Ok last_fault) _
    (λ e. rw ((bytes_eq-Decides (code "q" ∷ rest) (codes "qaisle.fault")).0 e) asks_fault)
    (λ e. by_test (Fits (code "q" ∷ rest)) (begins (codes "qSupported") (code "q" ∷ rest)) (Ok supported) (Ok unknown)
    (λ f. subst (λ p. Asks p supported) (sym (begins_is (codes "qSupported") (code "q" ∷ rest) f)) (asks_supported (drop 10 (code "q" ∷ rest))))
    (λ f. nameless (code "q" ∷ rest) (rw (e, f) refl)))

setting_fits : (rest : List ℕ) → Fits (code "Q" ∷ rest) (setting (code "Q" ∷ rest))
setting_fits rest = by_test (Fits (code "Q" ∷ rest)) (begins (codes "Qaisle.depth:") (code "Q" ∷ rest)) (deepened (drop 13 (code "Q" ∷ rest))) (Ok unknown)
    (λ e. subst (λ p. Fits p (deepened (drop 13 (code "Q" ∷ rest)))) (sym (begins_is (codes "Qaisle.depth:") (code "Q" ∷ rest) e)) (deepened_fits (drop 13 (code "Q" ∷ rest))))
    (λ e. nameless (code "Q" ∷ rest) (rw e refl))

by_itself_fits : (c : ℕ) (a : Asked) (rest : List ℕ) → Asks (c ∷ []) a → ((x : ℕ) (xs : List ℕ) → asked (c ∷ x ∷ xs) ≡ Ok unknown) → Fits (c ∷ rest) (Ok (by_itself a rest))
by_itself_fits c a [] h k = h
by_itself_fits c a (x ∷ xs) h k = nameless (c ∷ x ∷ xs) (k x xs)

pub fits : (payload : List ℕ) → Fits payload (asked payload)
fits [] = nameless [] refl
fits (c ∷ rest) =
    by_test (Fits (c ∷ rest)) (c == code "?") _ _ (λ e. rw (same c (code "?") e) (by_itself_fits (code "?") why_halted rest asks_why (λ x xs. refl)))
    (λ n1. by_test (Fits (c ∷ rest)) (c == code "m") _ _ (λ e. rw (same c (code "m") e) (read_fits rest (addresses rest) refl))
    (λ n2. by_test (Fits (c ∷ rest)) (c == code "M") _ _ (λ e. rw (same c (code "M") e) (write_fits rest (split_once (code ":") rest) refl))
    (λ n3. by_test (Fits (c ∷ rest)) (c == code "g") _ _ (λ e. rw (same c (code "g") e) (by_itself_fits (code "g") registers rest asks_registers (λ x xs. refl)))
    (λ n4. by_test (Fits (c ∷ rest)) (c == code "D") _ _ (λ e. rw (same c (code "D") e) (by_itself_fits (code "D") detach rest asks_detach (λ x xs. refl)))
    (λ n5. by_test (Fits (c ∷ rest)) (c == code "H") _ _ (λ e. rw (same c (code "H") e) (asks_thread rest))
    (λ n6. by_test (Fits (c ∷ rest)) (c == code "q") _ _ (λ e. rw (same c (code "q") e) (query_fits rest))
    (λ n7. by_test (Fits (c ∷ rest)) (c == code "Q") _ _ (λ e. rw (same c (code "Q") e) (setting_fits rest))
    (λ n8. nameless (c ∷ rest) (rw (n1, n2, n3, n4, n5, n6, n7, n8) refl)))))))))
  where
    same : (a b : ℕ) → (a == b) ≡ true → a ≡ b
    same a b e = grind (arith, nat_tests)
