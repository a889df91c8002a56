use Prim.Native.Char.{code}
use Rattle.std.specs.Prelude.{◌≡◌, ◌≢◌, ℕ, ◌+◌, ◌*◌, ◌^◌, ◌<◌, ◌≤◌, List, ◌∷◌, ◌++◌, length, codes, Some, Ok, Err, Result, IsSome}
use Rattle.std.specs.List.{AllByRecursion}
use Rattle.std.specs.Result.{MatchResult}
use Rattle.packets.specs.declared.command_refusal.CommandRefusal.{CommandRefusal}
use Rattle.packets.specs.declared.command_refusal.CommandRefusal.TheVariants.{BadForm, NoAddresses, WrongDigits, PastTheEnd}
use Rattle.packets.specs.Digits.{digit, number, spelled}
use Rattle.packets.specs.Commands.{Asked, why_halted, read, write, registers, detach, thread, supported, depth, last_fault, unknown}

-- Payloads, in the protocol's words.

-- A,L
pub record Span (text : List ℕ) (first count : ℕ) : Type 0 where
  pub a : List ℕ
  pub l : List ℕ
  pub is : text ≡ a ++ (code "," ∷ l)
  pub first_is : number a ≡ Some first
  pub count_is : number l ≡ Some count

-- A,L: and digits
pub record Bytes (text : List ℕ) (first count : ℕ) (digits : List ℕ) : Type 0 where
  pub front : List ℕ
  pub is : text ≡ front ++ (code ":" ∷ digits)
  pub span : Span front first count
  pub are_digits : AllByRecursion (λ c. IsSome (digit c)) digits

-- a depth in two digits
pub record Depth (text : List ℕ) (d : ℕ) : Type 0 where
  pub two : length text ≡ 2
  pub is : spelled 0 text ≡ Some d

-- the payloads that have a name
pub data Named : List ℕ → Type 0 where
  named_why : Named (codes "?")
  named_read : (text : List ℕ) → Named (code "m" ∷ text)
  named_write : (text : List ℕ) → Named (code "M" ∷ text)
  named_registers : Named (codes "g")
  named_detach : Named (codes "D")
  named_thread : (text : List ℕ) → Named (code "H" ∷ text)
  named_supported : (text : List ℕ) → Named (codes "qSupported" ++ text)
  named_depth : (text : List ℕ) → Named (codes "Qaisle.depth:" ++ text)
  named_fault : Named (codes "qaisle.fault")

-- what a payload asks for
pub data Asks : List ℕ → Asked → Type 0 where
  asks_why : Asks (codes "?") why_halted
  asks_read : (text : List ℕ) (first count : ℕ) → Span text first count → 0 < count → first + count ≤ 2 ^ 64
      → Asks (code "m" ∷ text) (read first count)
  asks_write : (text : List ℕ) (first count : ℕ) (digits : List ℕ) → Bytes text first count digits → 0 < count → length digits ≡ 2 * count → first + count ≤ 2 ^ 64
      → Asks (code "M" ∷ text) (write first digits)
  asks_registers : Asks (codes "g") registers
  asks_detach : Asks (codes "D") detach
  asks_thread : (text : List ℕ) → Asks (code "H" ∷ text) thread
  asks_supported : (text : List ℕ) → Asks (codes "qSupported" ++ text) supported
  asks_depth : (text : List ℕ) (d : ℕ) → Depth text d → Asks (codes "Qaisle.depth:" ++ text) (depth d)
  asks_fault : Asks (codes "qaisle.fault") last_fault
  asks_other : (payload : List ℕ) → (Named payload → ⊥) → Asks payload unknown

-- Why a payload is refused. Each reason leaves out those with a smaller number, so that a payload has one at most.
pub data Wrong : List ℕ → CommandRefusal → Type 0 where
  read_form : (text : List ℕ) → ((first count : ℕ) → Span text first count → ⊥) → Wrong (code "m" ∷ text) BadForm
  write_form : (text : List ℕ) → ((first count : ℕ) (digits : List ℕ) → Bytes text first count digits → ⊥) → Wrong (code "M" ∷ text) BadForm
  depth_form : (text : List ℕ) → ((d : ℕ) → Depth text d → ⊥) → Wrong (codes "Qaisle.depth:" ++ text) BadForm
  read_none : (text : List ℕ) (first : ℕ) → Span text first 0 → Wrong (code "m" ∷ text) NoAddresses
  write_none : (text : List ℕ) (first : ℕ) (digits : List ℕ) → Bytes text first 0 digits → Wrong (code "M" ∷ text) NoAddresses
  write_digits : (text : List ℕ) (first count : ℕ) (digits : List ℕ) → Bytes text first count digits → 0 < count → length digits ≢ 2 * count
      → Wrong (code "M" ∷ text) WrongDigits
  read_end : (text : List ℕ) (first count : ℕ) → Span text first count → 0 < count → 2 ^ 64 < first + count
      → Wrong (code "m" ∷ text) PastTheEnd
  write_end : (text : List ℕ) (first count : ℕ) (digits : List ℕ) → Bytes text first count digits → 0 < count → length digits ≡ 2 * count → 2 ^ 64 < first + count
      → Wrong (code "M" ∷ text) PastTheEnd

-- what the answer says of a payload, and that it is the only one that fits
pub record Parses (payload : List ℕ) (answer : Result Asked CommandRefusal) : Type 0 where
  pub fits : MatchResult answer (Asks payload) (Wrong payload)
  pub only_asked : (asked : Asked) → Asks payload asked → answer ≡ Ok asked
  pub only_refused : (refusal : CommandRefusal) → Wrong payload refusal → answer ≡ Err refusal
