use Prim.Native.Char.{code}
use Rattle.std.proofs.Common.{◌≡◌, ℕ, ◌*◌, Bool, true, false, if◌then◌else◌, List, length, Some, None, Ok, Err, Option, Result, ◌==◌, refl, ap, arith}
use Rattle.std.proofs.lemmas.Bool.Decides.{nat_tests}
use Rattle.packets.specs.Digits.{spelled}
use Rattle.packets.specs.Splits.{split_once}
use Rattle.packets.specs.declared.command_refusal.CommandRefusal.{CommandRefusal}
use Rattle.packets.specs.declared.command_refusal.CommandRefusal.TheVariants.{BadForm}
use Rattle.packets.specs.Commands.{Asked, write, unknown}
use Rattle.packets.specs.Asking.{addresses, all_digits, judged, read_at, write_at, write_from, deep, asked}
use Rattle.packets.specs.Forms.{Named, named_why, named_read, named_write, named_registers, named_detach, named_thread, named_supported, named_depth, named_fault, Asks, asks_why, asks_read, asks_write, asks_registers, asks_detach, asks_thread, asks_supported, asks_depth, asks_fault, asks_other, Wrong, read_form, write_form, depth_form, read_none, write_none, write_digits, read_end, write_end, Parses}
use Rattle.packets.proofs.Spans.{span_found, found_span, bytes_found, found_bytes}
use Rattle.packets.proofs.Fitting.{Fits, fits}

-- and no other answer fits

asks_named : (payload : List ℕ) (a : Asked) → Asks payload a → (Named payload → ⊥) → a ≡ unknown
asks_named payload a asks_why n = absurd (n named_why)
asks_named payload a (asks_read text first count s h k) n = absurd (n (named_read text))
asks_named payload a (asks_write text first count digits b h e k) n = absurd (n (named_write text))
asks_named payload a asks_registers n = absurd (n named_registers)
asks_named payload a asks_detach n = absurd (n named_detach)
asks_named payload a (asks_thread text) n = absurd (n (named_thread text))
asks_named payload a (asks_supported text) n = absurd (n (named_supported text))
asks_named payload a (asks_depth text d t) n = absurd (n (named_depth text))
asks_named payload a asks_fault n = absurd (n named_fault)
asks_named payload a (asks_other p m) n = refl

wrong_named : (payload : List ℕ) (r : CommandRefusal) → Wrong payload r → Named payload
wrong_named payload r (read_form text n) = named_read text
wrong_named payload r (write_form text n) = named_write text
wrong_named payload r (depth_form text n) = named_depth text
wrong_named payload r (read_none text first s) = named_read text
wrong_named payload r (write_none text first digits b) = named_write text
wrong_named payload r (write_digits text first count digits b h n) = named_write text
wrong_named payload r (read_end text first count s h k) = named_read text
wrong_named payload r (write_end text first count digits b h e k) = named_write text

unnamed : (payload : List ℕ) (w : Result Asked CommandRefusal) → Fits payload w → (Named payload → ⊥) → w ≡ Ok unknown
unnamed payload (Ok a) f n = ap Ok (asks_named payload a f n)
unnamed payload (Err r) f n = absurd (n (wrong_named payload r f))

asks_is : (payload : List ℕ) (a : Asked) → Asks payload a → asked payload ≡ Ok a
asks_is payload a asks_why = refl
asks_is payload a (asks_read text first count s h k) = rw (span_found text first count s) (grind (arith, nat_tests))
asks_is payload a (asks_write text first count digits b h e k) = let t = bytes_found text first count digits b in rw (t.1, t.2, t.3) (grind (arith, nat_tests))
asks_is payload a asks_registers = refl
asks_is payload a asks_detach = refl
asks_is payload a (asks_thread text) = refl
asks_is payload a (asks_supported text) = refl
asks_is payload a (asks_depth text d t) = rw (t.two, t.is) refl
asks_is payload a asks_fault = refl
asks_is payload a (asks_other p n) = unnamed payload (asked payload) (fits payload) n

wrong_is : (payload : List ℕ) (r : CommandRefusal) → Wrong payload r → asked payload ≡ Err r
wrong_is payload r (read_form text n) = step (addresses text) refl
  where
    step : (w : Option (ℕ × ℕ)) → addresses text ≡ w → read_at w ≡ Err BadForm
    step None e = refl
    step (Some (first, count)) e = absurd (n first count (found_span text first count e))
wrong_is payload r (write_form text n) = step (split_once (code ":") text) refl
  where
    digit_step : (front digits : List ℕ) (first count : ℕ) → split_once (code ":") text ≡ Some (front, digits) → addresses front ≡ Some (first, count) → (t : Bool) → all_digits digits ≡ t
        → (if t then judged first count (length digits == 2 * count) (write first digits) else Err BadForm) ≡ Err BadForm
    digit_step front digits first count e f true q = absurd (n first count digits (found_bytes text front first count digits e f q))
    digit_step front digits first count e f false q = refl

    span_step : (front digits : List ℕ) → split_once (code ":") text ≡ Some (front, digits) → (w : Option (ℕ × ℕ)) → addresses front ≡ w → write_at w digits ≡ Err BadForm
    span_step front digits e None f = refl
    span_step front digits e (Some (first, count)) f = digit_step front digits first count e f (all_digits digits) refl

    step : (w : Option (List ℕ × List ℕ)) → split_once (code ":") text ≡ w → write_from w ≡ Err BadForm
    step None e = refl
    step (Some (front, digits)) e = span_step front digits e (addresses front) refl
wrong_is payload r (depth_form text n) = step (length text == 2) (spelled 0 text) refl refl
  where
    step : (t : Bool) (o : Option ℕ) → (length text == 2) ≡ t → spelled 0 text ≡ o → (if t then deep o else Err BadForm) ≡ Err BadForm
    step false o p q = refl
    step true None p q = refl
    step true (Some d) p q = absurd (n d (record { two = grind (arith, nat_tests); is = q }))
wrong_is payload r (read_none text first s) = rw (span_found text first 0 s) refl
wrong_is payload r (write_none text first digits b) = let t = bytes_found text first 0 digits b in rw (t.1, t.2, t.3) refl
wrong_is payload r (write_digits text first count digits b h n) = let t = bytes_found text first count digits b in rw (t.1, t.2, t.3) (grind (arith, nat_tests))
wrong_is payload r (read_end text first count s h k) = rw (span_found text first count s) (grind (arith, nat_tests))
wrong_is payload r (write_end text first count digits b h e k) = let t = bytes_found text first count digits b in rw (t.1, t.2, t.3) (grind (arith, nat_tests))

pub parses : (payload : List ℕ) → Parses payload (asked payload)
parses payload = record { fits = fits payload; only_asked = asks_is payload; only_refused = wrong_is payload }
