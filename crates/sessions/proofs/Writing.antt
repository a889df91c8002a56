use Rattle.std.proofs.Common.{◌≡◌, ℕ, ◌+◌, ◌<◌, ◌≤◌, ◌^◌, min, List, [], ◌∷◌, length, take, drop, Some, None, Ok, Option, refl, ap, ◌∙◌, sym, subst, inl, inr, is_some, true, arith, length-append, length-take, take_all}
use Rattle.std.proofs.lemmas.Bool.{cases_lt}
use Rattle.std.proofs.lemmas.List.{take_at, take_min}
use Rattle.std.proofs.lemmas.Bool.Decides.{nat_tests}
use Rattle.spaces.specs.declared.refusal.EditRefusal.{EditRefusal}
use Rattle.spaces.specs.Patches.{Patches}
use Rattle.spaces.specs.Piles.{Pile}
use Rattle.spaces.specs.Edits.{setting, edit, judged, patches_at, refusal, edited, edit_at, unless, Outcome, outcome, Edits}
use Rattle.spaces.proofs.Laying.{length_laid}
use Rattle.packets.specs.Digits.{paired, Places}
use Rattle.packets.specs.Commands.{write}
use Rattle.patchfiles.specs.Runs.{Mark, refused, marked, left_by}
use Rattle.sessions.specs.States.{State}
use Rattle.sessions.specs.Answers.{done, told, after_asked}

-- Of many bytes 257 decide whether a set is refused.

-- a set of more than 256 bytes leaves more than 256 patches
crowds : (first : ℕ) (bytes : List ℕ) (ps : Patches) → 256 < length bytes → 256 < length (edit (setting first bytes) ps)
crowds first bytes ps n = simp (length-append, length_laid) (omega arith)

-- a long set is refused
refused_long : (p : Pile) (k first : ℕ) (bytes : List ℕ) → first + length bytes ≤ 2 ^ 64 → 256 < length bytes → is_some (refusal p k (setting first bytes)) ≡ true
refused_long p k first bytes e n = step (patches_at p.layers k)
  where
    step : (o : Option Patches) → is_some (judged o (setting first bytes)) ≡ true
    step None = grind (arith, nat_tests)
    step (Some ps) = grind (arith, nat_tests, crowds first bytes ps)

-- two long sets are refused alike
alike : (o : Option Patches) (first : ℕ) (xs ys : List ℕ) → 256 < length xs → 256 < length ys → first + length xs ≤ 2 ^ 64 → first + length ys ≤ 2 ^ 64
    → judged o (setting first xs) ≡ judged o (setting first ys)
alike None first xs ys n m e f = grind (arith, nat_tests)
alike (Some ps) first xs ys n m e f = grind (arith, nat_tests, crowds first xs ps, crowds first ys ps)

-- a set of some bytes does what a set of others does
pub record DoesTheSame (p : Pile) (k first : ℕ) (xs ys : List ℕ) : Type 0 where
  pub refusals : refusal p k (setting first xs) ≡ refusal p k (setting first ys)
  pub piles : edited p k (setting first xs) ≡ edited p k (setting first ys)

pub cut : (p : Pile) (k first : ℕ) (bytes : List ℕ) → first + length bytes ≤ 2 ^ 64 → DoesTheSame p k first (take 257 bytes) bytes
cut p k first bytes e = elim (cases_lt (length bytes) 257) [
  | inl n ↦ subst (λ xs. DoesTheSame p k first xs bytes) (sym (take_all 257 bytes (omega arith))) (record { refusals = refl; piles = refl })
  | inr n ↦
      let long : length (take 257 bytes) ≡ 257 = rw (length-take 257 bytes) (omega arith) in
      let same : refusal p k (setting first (take 257 bytes)) ≡ refusal p k (setting first bytes) = alike (patches_at p.layers k) first (take 257 bytes) bytes (omega arith) (omega arith) (omega arith) e in
      record { refusals = same; piles = both_refused (refusal p k (setting first bytes)) (refused_long p k first bytes e (omega arith)) same refl }
]
  where
    both_refused : (o : Option EditRefusal) → is_some o ≡ true → refusal p k (setting first (take 257 bytes)) ≡ o → refusal p k (setting first bytes) ≡ o
        → edited p k (setting first (take 257 bytes)) ≡ edited p k (setting first bytes)
    both_refused None t q r = cc
    both_refused (Some n) t q r = let same : unless (refusal p k (setting first (take 257 bytes))) p.layers (edit_at p.layers k (setting first (take 257 bytes))) ≡ unless (refusal p k (setting first bytes)) p.layers (edit_at p.layers k (setting first bytes)) = rw (q, r) refl in λ i. record { layers = same i; base = p.base }

-- one mark alone
marked_alone : (p : Pile) (m : Mark) → marked p m ≡ left_by (m ∷ []) p
marked_alone p m = step (refused p m) refl
  where
    step : (o : Option EditRefusal) → refused p m ≡ o → marked p m ≡ unless o p (marked p m)
    step None q = refl
    step (Some n) q = let same : unless (refused p m) p.layers (edit_at p.layers m.depth m.edit) ≡ p.layers = rw q refl in λ i. record { layers = same i; base = p.base }

-- a write does what setting 257 of its bytes does
module _ (s : State) (first : ℕ) (pairs xs : List ℕ) (q : Pile) (r : Outcome) (end : first + length (paired pairs) ≤ 2 ^ 64) (few : xs ≡ take 257 (paired pairs))
    (edits : Edits s.pile q s.depth (setting first xs) r) where
  same : DoesTheSame s.pile s.depth first xs (paired pairs)
  same = rw few (cut s.pile s.depth first (paired pairs) end)

  pub written_told : (o : Option EditRefusal) → r ≡ outcome o → told s (write first pairs) ≡ done o
  written_told o q = ap done (sym same.refusals ∙ by_answer _ o (sym edits.answer ∙ q))
    where
      by_answer : (a b : Option EditRefusal) → outcome a ≡ outcome b → a ≡ b
      by_answer a b e = grind arith

  pub written_after : record { pile = q; depth = s.depth; last = s.last } ≡ after_asked s (Ok (write first pairs))
  written_after = let pile = edits.pile ∙ same.piles ∙ marked_alone s.pile (record { depth = s.depth; edit = setting first (paired pairs) }) in
      λ i. record { pile = pile i; depth = s.depth; last = s.last }

-- the bytes in front of a buffer are those that it has room for
pub placed : (bytes old new : List ℕ) (n : ℕ) → Places bytes old new n → take n new ≡ take (length old) bytes
placed bytes old new n p =
    let front : take n new ≡ take n bytes = rw p.buffer (take_at (take n bytes) (drop n old) n (rw (length-take n bytes) (omega (arith, p.how_many)))) in
    let fits : n ≡ min (length old) (length bytes) = omega (arith, p.how_many) in
    front ∙ rw fits (take_min (length old) bytes)
