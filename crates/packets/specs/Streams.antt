use Prim.Native.Char.{code}
use Rattle.std.specs.Prelude.{◌≡◌, ◌≢◌, ℕ, ◌+◌, ◌<◌, ◌≤◌, List, [], ◌∷◌, ◌++◌, length, take, drop, Some}
use Rattle.std.specs.List.{sum_by}
use Rattle.packets.specs.Digits.{spelled}
use Rattle.packets.specs.Splits.{Lacks}
use Rattle.packets.specs.Frames.{checksum}
use Rattle.packets.specs.Items.{Heard, unfinished, resend, ignored, wrong_sum, no_end, packet, said}

-- Streams, in the protocol's words.

abbrev pub NoHash : List ℕ → Type 0
NoHash bytes = Lacks (code "#") bytes

-- what a frame can enclose
abbrev pub IsPayload : List ℕ → Type 0
IsPayload bytes = NoHash bytes × (length bytes ≤ 4096)

-- a frame, by its payload and all that comes behind its `#`
abbrev pub enclosed : List ℕ → List ℕ → List ℕ
enclosed payload behind = code "$" ∷ (payload ++ (code "#" ∷ behind))

-- a stream begins with an item, and this is what comes behind it
pub data Begins : List ℕ → Heard → List ℕ → Type 0 where
  nothing : Begins [] unfinished []
  no_hash_yet : (bytes : List ℕ) → IsPayload bytes → Begins (code "$" ∷ bytes) unfinished (code "$" ∷ bytes)
  no_digits_yet : (payload digits : List ℕ) → IsPayload payload → length digits < 2 → Begins (enclosed payload digits) unfinished (enclosed payload digits)
  minus : (rest : List ℕ) → Begins (code "-" ∷ rest) resend rest
  other : (b : ℕ) (rest : List ℕ) → b ≢ code "$" → b ≢ code "-" → Begins (b ∷ rest) ignored rest
  wrong : (payload : List ℕ) (high low : ℕ) (rest : List ℕ) → IsPayload payload → spelled 0 (high ∷ low ∷ []) ≢ Some (checksum payload)
      → Begins (enclosed payload (high ∷ low ∷ rest)) (wrong_sum (length payload + 4)) rest
  endless : (bytes rest : List ℕ) → NoHash bytes → length bytes ≡ 4097 → Begins (code "$" ∷ (bytes ++ rest)) no_end (bytes ++ rest)
  good : (payload : List ℕ) (high low : ℕ) (rest : List ℕ) → IsPayload payload → spelled 0 (high ∷ low ∷ []) ≡ Some (checksum payload)
      → Begins (enclosed payload (high ∷ low ∷ rest)) (packet payload) rest

-- What hearing says of the bytes received: they begin with the item and with no other, and it uses at most these bytes. Where
-- it is not `unfinished`, more bytes behind change neither it nor where it ends; and unless it is `no_end`, its own bytes decide
-- it alone. Of 4,100 bytes some are always an item.
pub record Hears (received : List ℕ) (item : Heard) : Type 0 where
  pub within : (said item).used ≤ length received
  pub begins : Begins received item (drop (said item).used received)
  pub only : (another : Heard) (rest : List ℕ) → Begins received another rest → (another ≡ item) × (rest ≡ drop (said item).used received)
  pub settled : item ≢ unfinished → (more : List ℕ) → Begins (received ++ more) item (drop (said item).used received ++ more)
  pub enough : 4100 ≤ length received → item ≢ unfinished
  pub alone : item ≢ unfinished → item ≢ no_end → (more : List ℕ) → Begins (take (said item).used received ++ more) item more

-- n bytes in front of a buffer are heard as a payload, whatever comes behind them
abbrev pub HeardBack : List ℕ → List ℕ → ℕ → Type 0
HeardBack payload buffer n = NoHash payload → (more : List ℕ) → Hears (take n buffer ++ more) (packet payload)

-- a stream is these items, one behind the other, and then nothing whole
pub data Runs : List ℕ → List Heard → List ℕ → Type 0 where
  ends : (rest : List ℕ) → Begins rest unfinished rest → Runs rest [] rest
  goes_on : (stream left rest : List ℕ) (item : Heard) (items : List Heard) → item ≢ unfinished → Begins stream item left → Runs left items rest
      → Runs stream (item ∷ items) rest

-- all that some items use
abbrev pub used_by : List Heard → ℕ
used_by items = sum_by (λ item. (said item).used) items

-- the one way in which a stream is items, which use all of it but what is left
pub record Through (stream : List ℕ) : Type 0 where
  pub items : List Heard
  pub rest : List ℕ
  pub runs : Runs stream items rest
  pub only : (others : List Heard) (left : List ℕ) → Runs stream others left → (others ≡ items) × (left ≡ rest)
  pub adds_up : used_by items + length rest ≡ length stream
  pub in_order : rest ≡ drop (used_by items) stream

abbrev pub EveryStreamIsItsItems : Type 0
EveryStreamIsItsItems = (stream : List ℕ) → Through stream
