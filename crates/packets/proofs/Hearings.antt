use Prim.Native.Char.{code}
use Rattle.std.proofs.Common.{◌≡◌, ◌≢◌, ℕ, ◌+◌, ◌/◌, ◌%◌, ◌≤◌, List, [], ◌∷◌, ◌++◌, length, take, drop, Some, None, Option, Bool, true, false, if◌then◌else◌, suc, ◌==◌, refl, sym, subst, ◌∙◌, ap, ◌<◌, min, inl, inr, arith}
use Rattle.std.proofs.lemmas.Bool.{cases_lt}
use Rattle.std.proofs.lemmas.Bool.Decides.{nat_tests}
use Rattle.std.proofs.lemmas.List.{append_assoc, append-nil, length-append, length-take, take-append-drop, take_at, take_all, drop_at}
use Rattle.packets.specs.Digits.{lower, digits, spelled}
use Rattle.packets.specs.Splits.{split_once}
use Rattle.packets.specs.Frames.{checksum, framed, has_frame, Frames}
use Rattle.packets.specs.Items.{Heard, unfinished, resend, ignored, wrong_sum, no_end, packet, said}
use Rattle.packets.specs.Hearing.{weighed, closed, parted, heard}
use Rattle.packets.specs.Streams.{NoHash, IsPayload, enclosed, Begins, nothing, no_hash_yet, no_digits_yet, minus, other, wrong, endless, good, Hears, HeardBack}
use Rattle.packets.proofs.Reading.{take_each, read_digits}
use Rattle.packets.proofs.Splitting.{Split, splits, split_found, split_none, Behind, split_behind}

-- What a stream begins with is what is heard.

enclosed_is : (payload behind : List ℕ) → IsPayload payload → heard (enclosed payload behind) ≡ closed payload behind
enclosed_is payload behind p = grind (arith, nat_tests, split_found (code "#") payload behind p.0)

heard_is : (s : List ℕ) (item : Heard) (rest : List ℕ) → Begins s item rest → heard s ≡ item
heard_is s item rest nothing = refl
heard_is s item rest (no_hash_yet bytes p) = grind (arith, nat_tests, split_none (code "#") bytes p.0)
heard_is s item rest (no_digits_yet payload [] p l) = enclosed_is payload [] p
heard_is s item rest (no_digits_yet payload (c ∷ []) p l) = enclosed_is payload (c ∷ []) p
heard_is s item rest (no_digits_yet payload (c ∷ d ∷ cs) p l) = absurd (omega arith)
heard_is s item rest (minus r) = refl
heard_is s item rest (other b r h k) = grind (arith, nat_tests)
heard_is s item rest (wrong payload high low r p l) = enclosed_is payload (high ∷ low ∷ r) p ∙ grind (arith, nat_tests)
heard_is s item rest (endless bytes r h k) = step (split_once (code "#") (bytes ++ r)) (split_behind (code "#") bytes r h) refl
  where
    step : (w : Option (List ℕ × List ℕ)) → Behind bytes w → split_once (code "#") (bytes ++ r) ≡ w → heard (code "$" ∷ (bytes ++ r)) ≡ no_end
    step None b e = grind (arith, nat_tests, length-append bytes r)
    step (Some p) b e = grind (arith, nat_tests)
heard_is s item rest (good payload high low r p l) = enclosed_is payload (high ∷ low ∷ r) p ∙ grind (arith, nat_tests)

-- what is heard stands at the stream's head

pub record AtHead (s : List ℕ) (item : Heard) : Type 0 where
  pub within : (said item).used ≤ length s
  pub begins : Begins s item (drop (said item).used s)

long : (payload rest : List ℕ) (high low : ℕ) → length (enclosed payload (high ∷ low ∷ rest)) ≡ length payload + 4 + length rest
long payload rest high low = grind (arith, length-append payload (code "#" ∷ high ∷ low ∷ rest))

behind_frame : (payload rest : List ℕ) (high low : ℕ) → drop (length payload + 4) (enclosed payload (high ∷ low ∷ rest)) ≡ rest
behind_frame payload rest high low =
    let e : length payload + 4 ≡ suc (length payload + 3) = omega arith in
    rw (e, sym (append_assoc payload (code "#" ∷ high ∷ low ∷ []) rest)) (drop_at (payload ++ (code "#" ∷ high ∷ low ∷ [])) rest (length payload + 3) (length-append payload (code "#" ∷ high ∷ low ∷ [])))

closed_at_head : (payload behind : List ℕ) → IsPayload payload → AtHead (enclosed payload behind) (closed payload behind)
closed_at_head payload [] p = record { within = omega arith; begins = no_digits_yet payload [] p (omega arith) }
closed_at_head payload (c ∷ []) p = record { within = omega arith; begins = no_digits_yet payload (c ∷ []) p (omega arith) }
closed_at_head payload (high ∷ low ∷ rest) p = step (spelled 0 (high ∷ low ∷ [])) refl
  where
    fits : length payload + 4 ≤ length (enclosed payload (high ∷ low ∷ rest))
    fits = omega (arith, long payload rest high low)

    bad : spelled 0 (high ∷ low ∷ []) ≢ Some (checksum payload) → AtHead (enclosed payload (high ∷ low ∷ rest)) (wrong_sum (length payload + 4))
    bad n = record { within = fits; begins = rw (behind_frame payload rest high low) (wrong payload high low rest p n) }

    sum_step : (n : ℕ) → spelled 0 (high ∷ low ∷ []) ≡ Some n → (t : Bool) → (n == checksum payload) ≡ t → AtHead (enclosed payload (high ∷ low ∷ rest)) (if t then packet payload else wrong_sum (length payload + 4))
    sum_step n e true q = record { within = fits; begins = rw (behind_frame payload rest high low) (good payload high low rest p (grind (arith, nat_tests))) }
    sum_step n e false q = bad (λ f. grind (arith, nat_tests))

    step : (w : Option ℕ) → spelled 0 (high ∷ low ∷ []) ≡ w → AtHead (enclosed payload (high ∷ low ∷ rest)) (weighed payload w)
    step None e = bad (λ f. cc)
    step (Some n) e = sum_step n e (n == checksum payload) refl

no_end_at_head : (front rest : List ℕ) → NoHash front → 4097 ≤ length front → AtHead (code "$" ∷ (front ++ rest)) no_end
no_end_at_head front rest h k = record { within = omega arith; begins = cut 4097 k refl }
  where
    cut : (n : ℕ) → n ≤ length front → n ≡ 4097 → Begins (code "$" ∷ (front ++ rest)) no_end (front ++ rest)
    cut n l e =
        let t = endless (take n front) (drop n front ++ rest) (take_each _ n front h) (omega (arith, length-take n front)) in
        subst (λ xs. Begins (code "$" ∷ xs) no_end xs) (sym (append_assoc (take n front) (drop n front) rest) ∙ ap (λ xs. xs ++ rest) (take-append-drop n front)) t

parted_at_head : (bytes : List ℕ) (w : Option (List ℕ × List ℕ)) → Split (code "#") bytes w → AtHead (code "$" ∷ bytes) (parted bytes w)
parted_at_head bytes None s = step (has_frame bytes) refl
  where
    step : (t : Bool) → has_frame bytes ≡ t → AtHead (code "$" ∷ bytes) (if t then unfinished else no_end)
    step true q = record { within = omega arith; begins = no_hash_yet bytes (s, grind (arith, nat_tests)) }
    step false q = subst (λ xs. AtHead (code "$" ∷ xs) no_end) (append-nil bytes) (no_end_at_head bytes [] s (grind (arith, nat_tests)))
parted_at_head bytes (Some p) s = step (has_frame p.0) refl
  where
    step : (t : Bool) → has_frame p.0 ≡ t → AtHead (code "$" ∷ bytes) (if t then closed p.0 p.1 else no_end)
    step true q = rw s.1 (closed_at_head p.0 p.1 (s.0, grind (arith, nat_tests)))
    step false q = rw s.1 (no_end_at_head p.0 (code "#" ∷ p.1) s.0 (grind (arith, nat_tests)))

heard_at_head : (s : List ℕ) → AtHead s (heard s)
heard_at_head [] = record { within = omega arith; begins = nothing }
heard_at_head (c ∷ bytes) = step (c == code "$") (c == code "-") refl refl
  where
    step : (t u : Bool) → (c == code "$") ≡ t → (c == code "-") ≡ u → AtHead (c ∷ bytes) (if t then parted bytes (split_once (code "#") bytes) else if u then resend else ignored)
    step true u e f = let is : c ≡ code "$" = grind (arith, nat_tests) in rw is (parted_at_head bytes (split_once (code "#") bytes) (splits (code "#") bytes))
    step false true e f = let is : c ≡ code "-" = grind (arith, nat_tests) in rw is (record { within = omega arith; begins = minus bytes })
    step false false e f = record { within = omega arith; begins = other c bytes (grind (arith, nat_tests)) (grind (arith, nat_tests)) }

-- more bytes behind an item change nothing
settled : (s : List ℕ) (item : Heard) (rest more : List ℕ) → Begins s item rest → item ≢ unfinished → Begins (s ++ more) item (rest ++ more)
settled s item rest more nothing n = absurd (n refl)
settled s item rest more (no_hash_yet bytes p) n = absurd (n refl)
settled s item rest more (no_digits_yet payload digits p l) n = absurd (n refl)
settled s item rest more (minus r) n = minus (r ++ more)
settled s item rest more (other b r h k) n = other b (r ++ more) h k
settled s item rest more (wrong payload high low r p l) n = rw (append_assoc payload (code "#" ∷ high ∷ low ∷ r) more) (wrong payload high low (r ++ more) p l)
settled s item rest more (endless bytes r h k) n = rw (append_assoc bytes r more) (endless bytes (r ++ more) h k)
settled s item rest more (good payload high low r p l) n = rw (append_assoc payload (code "#" ∷ high ∷ low ∷ r) more) (good payload high low (r ++ more) p l)

-- where an item ends
rest_is : (s : List ℕ) (item : Heard) (rest : List ℕ) → Begins s item rest → rest ≡ drop (said item).used s
rest_is s item rest nothing = refl
rest_is s item rest (no_hash_yet bytes p) = refl
rest_is s item rest (no_digits_yet payload digits p l) = refl
rest_is s item rest (minus r) = refl
rest_is s item rest (other b r h k) = refl
rest_is s item rest (wrong payload high low r p l) = sym (behind_frame payload r high low)
rest_is s item rest (endless bytes r h k) = refl
rest_is s item rest (good payload high low r p l) = sym (behind_frame payload r high low)

front_of_frame : (payload rest : List ℕ) (high low : ℕ) → take (length payload + 4) (enclosed payload (high ∷ low ∷ rest)) ≡ enclosed payload (high ∷ low ∷ [])
front_of_frame payload rest high low =
    let e : length payload + 4 ≡ suc (length payload + 3) = omega arith in
    rw (e, sym (append_assoc payload (code "#" ∷ high ∷ low ∷ []) rest)) (ap (λ xs. code "$" ∷ xs) (take_at (payload ++ (code "#" ∷ high ∷ low ∷ [])) rest (length payload + 3) (length-append payload (code "#" ∷ high ∷ low ∷ []))))

-- what comes behind an item changes nothing
alone : (s : List ℕ) (item : Heard) (rest more : List ℕ) → Begins s item rest → item ≢ unfinished → item ≢ no_end → Begins (take (said item).used s ++ more) item more
alone s item rest more nothing n m = absurd (n refl)
alone s item rest more (no_hash_yet bytes p) n m = absurd (n refl)
alone s item rest more (no_digits_yet payload digits p l) n m = absurd (n refl)
alone s item rest more (minus r) n m = minus more
alone s item rest more (other b r h k) n m = other b more h k
alone s item rest more (wrong payload high low r p l) n m = rw (front_of_frame payload r high low, append_assoc payload (code "#" ∷ high ∷ low ∷ []) more) (wrong payload high low more p l)
alone s item rest more (endless bytes r h k) n m = absurd (m refl)
alone s item rest more (good payload high low r p l) n m = rw (front_of_frame payload r high low, append_assoc payload (code "#" ∷ high ∷ low ∷ []) more) (good payload high low more p l)

-- what is unfinished is short
short : (s : List ℕ) (item : Heard) (rest : List ℕ) → Begins s item rest → item ≡ unfinished → length s < 4100
short s item rest nothing e = omega arith
short s item rest (no_hash_yet bytes p) e = omega (arith, p.1)
short s item rest (no_digits_yet payload digits p l) e = omega (arith, p.1, length-append payload (code "#" ∷ digits))
short s item rest (minus r) e = cc
short s item rest (other b r h k) e = cc
short s item rest (wrong payload high low r p l) e = cc
short s item rest (endless bytes r h k) e = cc
short s item rest (good payload high low r p l) e = cc

pub hears : (s : List ℕ) → Hears s (heard s)
hears s = let t = heard_at_head s in record {
  within = t.within;
  begins = t.begins;
  only = λ other rest b. let e = sym (heard_is s other rest b) in (e, rest_is s other rest b ∙ ap (λ i. drop (said i).used s) e);
  settled = λ n more. settled s (heard s) (drop (said (heard s)).used s) more t.begins n;
  enough = λ h e. let k = short s (heard s) (drop (said (heard s)).used s) t.begins e in omega (arith, k);
  alone = λ n m more. alone s (heard s) (drop (said (heard s)).used s) more t.begins n m;
}

-- the first 4,100 bytes decide
pub heard_near : (s : List ℕ) (n : ℕ) → n ≡ min (length s) 4100 → heard (take n s) ≡ heard s
heard_near s n e = elim (cases_lt (length s) 4100) [
  | inl h ↦ ap heard (take_all n s (omega (arith, e)))
  | inr h ↦
      let t = hears (take n s) in
      let left = drop (said (heard (take n s))).used (take n s) ++ drop n s in
      let b = t.settled (t.enough (omega (arith, e, length-take n s))) (drop n s) in
      sym (heard_is s (heard (take n s)) left (subst (λ xs. Begins xs (heard (take n s)) left) (take-append-drop n s) b))
]

-- a payload's frame is heard as the payload, whatever comes behind it
pub framed_heard : (payload more : List ℕ) → IsPayload payload → Hears (framed payload ++ more) (packet payload)
framed_heard payload more p =
    let sum = checksum payload in
    let e = read_digits 2 sum (omega arith) in
    let s : framed payload ++ more ≡ enclosed payload (digits 2 sum ++ more) = ap (λ xs. code "$" ∷ xs) (append_assoc payload (code "#" ∷ digits 2 sum) more) in
    let b = good payload (lower (sum / 16 % 16)) (lower (sum % 16)) more p e in
    rw s (subst (Hears (enclosed payload (digits 2 sum ++ more))) (heard_is (enclosed payload (digits 2 sum ++ more)) (packet payload) more b) (hears (enclosed payload (digits 2 sum ++ more))))

pub front_heard : (payload before after : List ℕ) (n : ℕ) → Frames payload before after (Some n) → HeardBack payload after n
front_heard payload before after n f h more = step (has_frame payload) refl f.how_many f.buffer
  where
    step : (t : Bool) → has_frame payload ≡ t → Some n ≡ (if t then Some (length payload + 4) else None) → after ≡ (if t then framed payload ++ drop (length payload + 4) before else before)
        → Hears (take n after ++ more) (packet payload)
    step false q e b = cc
    step true q e b =
        let k : n ≡ length payload + 4 = cc in
        let l : length (framed payload) ≡ n = grind (arith, length-append payload (code "#" ∷ digits 2 (checksum payload))) in
        rw (b, take_at (framed payload) (drop (length payload + 4) before) n l) (framed_heard payload more (h, grind (arith, nat_tests)))
