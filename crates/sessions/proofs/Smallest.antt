use Prim.Native.Char.{code}
use Rattle.std.proofs.Common.{◌≡◌, ℕ, ◌+◌, ◌*◌, ◌^◌, ◌<◌, ◌≤◌, ◌⊎◌, inl, inr, List, ◌∷◌, length, IsOk, Some, None, Ok, Err, Option, Result, refl, subst, sym, arith, MatchResult}
use Rattle.std.proofs.lemmas.Bool.{cases_eq, cases_lt}
use Rattle.std.proofs.lemmas.Bool.Decides.{nat_tests}
use Rattle.spaces.specs.declared.refusal.EditRefusal.{EditRefusal}
use Rattle.spaces.specs.declared.refusal.EditRefusal.TheVariants as edits
use Rattle.spaces.specs.Patches.{Patches}
use Rattle.spaces.specs.Edits.{setting, edit, judged, patches_at}
use Rattle.packets.specs.declared.command_refusal.CommandRefusal.{CommandRefusal}
use Rattle.packets.specs.declared.command_refusal.CommandRefusal.TheVariants.{BadForm, NoAddresses, WrongDigits, PastTheEnd}
use Rattle.packets.specs.Digits.{paired}
use Rattle.packets.specs.Commands.{Asked, write}
use Rattle.packets.specs.Asking.{asked}
use Rattle.packets.specs.Refusals.{command_refusal_number}
use Rattle.packets.specs.Forms as forms
use Rattle.packets.specs.Forms.{Span, Bytes, Asks, Wrong}
use Rattle.packets.proofs.Parsing.{parses}
use Rattle.sessions.specs.declared.refusal.PayloadRefusal.{PayloadRefusal}
use Rattle.sessions.specs.declared.refusal.PayloadRefusal.TheVariants.{Command, Edit}
use Rattle.sessions.specs.Refusals.{payload_refusal_number}
use Rattle.sessions.specs.States.{State}
use Rattle.sessions.specs.Answers.{done, told_by}
use Rattle.sessions.specs.Texts.{end_of}
use Rattle.sessions.specs.Smallest.{Applies, read_form, write_form, depth_form, read_none, write_none, write_digits, read_end, write_end, edit_end, no_overlay, too_many, IsSmallest, NothingApplies, EveryRefusalHasTheSmallestNumber}
use Rattle.sessions.proofs.Ending.{ends}

-- A payload is refused with the smallest number that applies.

-- no number of a command's refusal is above 25
command_first : (r : CommandRefusal) → command_refusal_number r ≤ 0x25
command_first r = grind arith

-- why the pile refuses a write that ends by 2 ^ 64
edit_refused : (o : Option Patches) (first : ℕ) (bytes : List ℕ) (r : EditRefusal) → judged o (setting first bytes) ≡ Some r → first + length bytes ≤ 2 ^ 64
    → ((r ≡ edits.NoOverlay) × (o ≡ None)) ⊎ ((r ≡ edits.TooManyPatches) × ((ps : Patches) × (o ≡ Some ps) × (256 < length (edit (setting first bytes) ps))))
edit_refused None first bytes r e h = inl (grind (arith, nat_tests))
edit_refused (Some ps) first bytes r e h = inr (grind (arith, nat_tests), (ps, refl, grind (arith, nat_tests)))

-- a write in its form is refused all the same, or asks for an edit
write_by : (text : List ℕ) (first count : ℕ) (digits : List ℕ) → Bytes text first count digits
    → ((r : CommandRefusal) × Wrong (code "M" ∷ text) r) ⊎ (Asks (code "M" ∷ text) (write first digits) × (first + count ≤ 2 ^ 64))
write_by text first count digits b = elim (cases_eq count 0) [
  | inl z ↦ inl (NoAddresses, forms.write_none text first digits (subst (λ n. Bytes text first n digits) z b))
  | inr n ↦ elim (cases_eq (length digits) (2 * count)) [
    | inr m ↦ inl (WrongDigits, forms.write_digits text first count digits b (omega (arith, n)) m)
    | inl e ↦ elim (cases_lt (2 ^ 64) (first + count)) [
      | inl h ↦ inl (PastTheEnd, forms.write_end text first count digits b (omega (arith, n)) e h)
      | inr h ↦ inr (forms.asks_write text first count digits b (omega (arith, n)) e h, h)
    ]
  ]
]

module _ (s : State) where
  -- what is answered is no greater than a refusal that applies
  abbrev AtMost : PayloadRefusal → Result (List ℕ) PayloadRefusal → Type 0
  AtMost q w = MatchResult w (λ _. ⊥) (λ r. payload_refusal_number r ≤ payload_refusal_number q)

  by_form : (payload : List ℕ) (r : CommandRefusal) (q : PayloadRefusal) → Wrong payload r → command_refusal_number r ≤ payload_refusal_number q → AtMost q (told_by s (asked payload))
  by_form payload r q w h = rw ((parses payload).only_refused r w) h

  -- the pile decides, unless the form is refused
  by_pile : (text : List ℕ) (first count : ℕ) (digits : List ℕ) (q : PayloadRefusal) → Bytes text first count digits → 0x25 ≤ payload_refusal_number q
      → AtMost q (done (judged (patches_at s.pile.layers s.depth) (setting first (paired digits)))) → AtMost q (told_by s (asked (code "M" ∷ text)))
  by_pile text first count digits q b n h = elim (write_by text first count digits b) [
    | inl w ↦ let l = command_first w.0 in by_form (code "M" ∷ text) w.0 q w.1 (omega arith)
    | inr a ↦ rw ((parses (code "M" ∷ text)).only_asked (write first digits) a.0) h
  ]

  at_most : (payload : List ℕ) (q : PayloadRefusal) → Applies s payload q → AtMost q (told_by s (asked payload))
  at_most payload q (read_form text n) = by_form _ BadForm q (forms.read_form text n) (omega arith)
  at_most payload q (write_form text n) = by_form _ BadForm q (forms.write_form text n) (omega arith)
  at_most payload q (depth_form text n) = by_form _ BadForm q (forms.depth_form text n) (omega arith)
  at_most payload q (read_none text first b) = by_form _ NoAddresses q (forms.read_none text first b) (omega arith)
  at_most payload q (write_none text first digits b) = by_form _ NoAddresses q (forms.write_none text first digits b) (omega arith)
  at_most payload q (write_digits text first count digits b n) = elim (cases_eq count 0) [
    | inl z ↦ by_form _ NoAddresses q (forms.write_none text first digits (subst (λ k. Bytes text first k digits) z b)) (omega arith)
    | inr m ↦ by_form _ WrongDigits q (forms.write_digits text first count digits b (omega (arith, m)) n) (omega arith)
  ]
  at_most payload q (read_end text first count b h) = elim (cases_eq count 0) [
    | inl z ↦ by_form _ NoAddresses q (forms.read_none text first (subst (Span text first) z b)) (omega arith)
    | inr m ↦ by_form _ PastTheEnd q (forms.read_end text first count b (omega (arith, m)) h) (omega arith)
  ]
  at_most payload q (write_end text first count digits b h) = elim (write_by text first count digits b) [
    | inl w ↦ by_form _ w.0 q w.1 (command_first w.0)
    | inr a ↦ absurd (omega (arith, a.1))
  ]
  at_most payload q (edit_end text first count digits b h) = elim (write_by text first count digits b) [
    | inl w ↦ by_form _ w.0 q w.1 (command_first w.0)
    | inr a ↦ absurd (omega (arith, ends (code "M" ∷ text) (write first digits) a.0))
  ]
  at_most payload q (no_overlay text first count digits b e) = by_pile text first count digits q b (omega arith) (rw e (grind (arith, nat_tests)))
  at_most payload q (too_many text first count digits ps b e h) = by_pile text first count digits q b (omega arith) (rw e (grind (arith, nat_tests)))

  abbrev Judged : List ℕ → Type 0
  Judged payload = MatchResult (told_by s (asked payload)) (λ _. NothingApplies s payload) (IsSmallest s payload)

  accepted : (payload : List ℕ) → IsOk (told_by s (asked payload)) → Judged payload
  accepted payload ok = step (told_by s (asked payload)) refl ok
    where
      step : (w : Result (List ℕ) PayloadRefusal) → told_by s (asked payload) ≡ w → IsOk w → MatchResult w (λ _. NothingApplies s payload) (IsSmallest s payload)
      step (Ok text) e k = λ q a. rw e at (at_most payload q a)
      step (Err r) e k = absurd cc

  refused : (payload : List ℕ) (r : PayloadRefusal) → told_by s (asked payload) ≡ Err r → Applies s payload r → Judged payload
  refused payload r e a = rw e (record { applies = a; least = λ q b. rw e at (at_most payload q b) })

  applied : (payload : List ℕ) (r : CommandRefusal) → Wrong payload r → Applies s payload (Command r)
  applied payload r (forms.read_form text n) = read_form text n
  applied payload r (forms.write_form text n) = write_form text n
  applied payload r (forms.depth_form text n) = depth_form text n
  applied payload r (forms.read_none text first b) = read_none text first b
  applied payload r (forms.write_none text first digits b) = write_none text first digits b
  applied payload r (forms.write_digits text first count digits b m n) = write_digits text first count digits b n
  applied payload r (forms.read_end text first count b m h) = read_end text first count b h
  applied payload r (forms.write_end text first count digits b m e h) = write_end text first count digits b h

  write_judged : (text : List ℕ) (first count : ℕ) (digits : List ℕ) → Bytes text first count digits → asked (code "M" ∷ text) ≡ Ok (write first digits)
      → first + length (paired digits) ≤ 2 ^ 64 → Judged (code "M" ∷ text)
  write_judged text first count digits b e h = step (judged (patches_at s.pile.layers s.depth) (setting first (paired digits))) refl
    where
      step : (o : Option EditRefusal) → judged (patches_at s.pile.layers s.depth) (setting first (paired digits)) ≡ o → Judged (code "M" ∷ text)
      step None q = accepted (code "M" ∷ text) (rw (e, q) refl)
      step (Some r) q = elim (edit_refused (patches_at s.pile.layers s.depth) first (paired digits) r q h) [
        | inl n ↦ refused (code "M" ∷ text) (Edit r) (rw (e, q) refl) (rw n.0 (no_overlay text first count digits b n.1))
        | inr n ↦ refused (code "M" ∷ text) (Edit r) (rw (e, q) refl) (rw n.0 (too_many text first count digits n.1.0 b n.1.1 n.1.2))
      ]

  asks_judged : (payload : List ℕ) (a : Asked) → Asks payload a → asked payload ≡ Ok a → end_of a ≤ 2 ^ 64 → Judged payload
  asks_judged payload a (forms.asks_write text first count digits b some two end) e h = write_judged text first count digits b e h
  asks_judged payload a forms.asks_why e h = accepted payload (subst (λ w. IsOk (told_by s w)) (sym e) refl)
  asks_judged payload a (forms.asks_read text first count b some end) e h = accepted payload (subst (λ w. IsOk (told_by s w)) (sym e) refl)
  asks_judged payload a forms.asks_registers e h = accepted payload (subst (λ w. IsOk (told_by s w)) (sym e) refl)
  asks_judged payload a forms.asks_detach e h = accepted payload (subst (λ w. IsOk (told_by s w)) (sym e) refl)
  asks_judged payload a (forms.asks_thread text) e h = accepted payload (subst (λ w. IsOk (told_by s w)) (sym e) refl)
  asks_judged payload a (forms.asks_supported text) e h = accepted payload (subst (λ w. IsOk (told_by s w)) (sym e) refl)
  asks_judged payload a (forms.asks_depth text d is) e h = accepted payload (subst (λ w. IsOk (told_by s w)) (sym e) refl)
  asks_judged payload a forms.asks_fault e h = accepted payload (subst (λ w. IsOk (told_by s w)) (sym e) refl)
  asks_judged payload a (forms.asks_other p none) e h = accepted payload (subst (λ w. IsOk (told_by s w)) (sym e) refl)

  payload_judged : (payload : List ℕ) → Judged payload
  payload_judged payload = step (asked payload) refl (parses payload).fits
    where
      step : (w : Result Asked CommandRefusal) → asked payload ≡ w → MatchResult w (Asks payload) (Wrong payload) → Judged payload
      step (Ok a) e f = asks_judged payload a f e (ends payload a f)
      step (Err r) e f = refused payload (Command r) (rw e refl) (applied payload r f)

pub smallest : EveryRefusalHasTheSmallestNumber
smallest = record { smallest = payload_judged; past_the_end = refl }
