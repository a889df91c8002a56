use Prim.Native.Char.{code}
use Rattle.std.specs.Prelude.{◌≡◌, ◌≢◌, ℕ, ◌+◌, ◌*◌, ◌^◌, ◌<◌, ◌≤◌, List, ◌∷◌, ◌++◌, length, codes, Some, None, MatchResult}
use Rattle.spaces.specs.declared.refusal.EditRefusal.TheVariants.{NoOverlay, TooManyPatches}
use Rattle.spaces.specs.declared.refusal.EditRefusal.TheVariants as edits
use Rattle.spaces.specs.Patches.{Patches}
use Rattle.spaces.specs.Edits.{setting, edit, patches_at}
use Rattle.spaces.specs.Refusals.{edit_refusal_number}
use Rattle.packets.specs.declared.command_refusal.CommandRefusal.TheVariants.{BadForm, NoAddresses, WrongDigits, PastTheEnd}
use Rattle.packets.specs.Digits.{paired}
use Rattle.packets.specs.Asking.{asked}
use Rattle.packets.specs.Forms.{Span, Bytes, Depth}
use Rattle.packets.specs.Refusals.{command_refusal_number}
use Rattle.sessions.specs.declared.refusal.PayloadRefusal.{PayloadRefusal}
use Rattle.sessions.specs.declared.refusal.PayloadRefusal.TheVariants.{Command, Edit}
use Rattle.sessions.specs.Refusals.{payload_refusal_number}
use Rattle.sessions.specs.States.{State}
use Rattle.sessions.specs.Answers.{told_by}

-- A payload is refused with the smallest number that applies, by its form or by the pile.

-- A refusal applies to a payload, by its own rule and whatever else applies. (`Wrong` in `packets` has the rules of a command
-- too; there each leaves out those with a smaller number.)
pub data Applies (s : State) : List ℕ → PayloadRefusal → Type 0 where
  read_form : (text : List ℕ) → ((first count : ℕ) → Span text first count → ⊥) → Applies s (code "m" ∷ text) (Command BadForm)
  write_form : (text : List ℕ) → ((first count : ℕ) (digits : List ℕ) → Bytes text first count digits → ⊥) → Applies s (code "M" ∷ text) (Command BadForm)
  depth_form : (text : List ℕ) → ((d : ℕ) → Depth text d → ⊥) → Applies s (codes "Qaisle.depth:" ++ text) (Command BadForm)
  read_none : (text : List ℕ) (first : ℕ) → Span text first 0 → Applies s (code "m" ∷ text) (Command NoAddresses)
  write_none : (text : List ℕ) (first : ℕ) (digits : List ℕ) → Bytes text first 0 digits → Applies s (code "M" ∷ text) (Command NoAddresses)
  write_digits : (text : List ℕ) (first count : ℕ) (digits : List ℕ) → Bytes text first count digits → length digits ≢ 2 * count
      → Applies s (code "M" ∷ text) (Command WrongDigits)
  read_end : (text : List ℕ) (first count : ℕ) → Span text first count → 2 ^ 64 < first + count → Applies s (code "m" ∷ text) (Command PastTheEnd)
  write_end : (text : List ℕ) (first count : ℕ) (digits : List ℕ) → Bytes text first count digits → 2 ^ 64 < first + count
      → Applies s (code "M" ∷ text) (Command PastTheEnd)
  edit_end : (text : List ℕ) (first count : ℕ) (digits : List ℕ) → Bytes text first count digits → 2 ^ 64 < first + length (paired digits)
      → Applies s (code "M" ∷ text) (Edit edits.PastTheEnd)
  no_overlay : (text : List ℕ) (first count : ℕ) (digits : List ℕ) → Bytes text first count digits → patches_at s.pile.layers s.depth ≡ None
      → Applies s (code "M" ∷ text) (Edit NoOverlay)
  too_many : (text : List ℕ) (first count : ℕ) (digits : List ℕ) (ps : Patches) → Bytes text first count digits → patches_at s.pile.layers s.depth ≡ Some ps
      → 256 < length (edit (setting first (paired digits)) ps) → Applies s (code "M" ∷ text) (Edit TooManyPatches)

-- the refusal applies, and no smaller number does
pub record IsSmallest (s : State) (payload : List ℕ) (refusal : PayloadRefusal) : Type 0 where
  pub applies : Applies s payload refusal
  pub least : (other : PayloadRefusal) → Applies s payload other → payload_refusal_number refusal ≤ payload_refusal_number other

abbrev pub NothingApplies : State → List ℕ → Type 0
NothingApplies s payload = (refusal : PayloadRefusal) → Applies s payload refusal → ⊥

pub record EveryRefusalHasTheSmallestNumber : Type 0 where
  pub smallest : (s : State) (payload : List ℕ) → MatchResult (told_by s (asked payload)) (λ _. NothingApplies s payload) (IsSmallest s payload)
  -- past the end has one number, of a command and of an edit
  pub past_the_end : command_refusal_number PastTheEnd ≡ edit_refusal_number edits.PastTheEnd
