use Rattle.std.proofs.Common.{◌≡◌, ℕ, ◌≤◌, Bool, true, false, if◌then◌else◌, List, ◌++◌, length, take, drop, refl, sym, ap, ◌∙◌, arith, length-append}
use Rattle.std.proofs.lemmas.List.{take_at}
use Rattle.packets.specs.Frames.{framed}
use Rattle.sessions.specs.States.{State}
use Rattle.sessions.specs.Answers.{reply, Answers}
use Rattle.serving.specs.Registers.{registers, asks_registers, MakesPcKnown}
use Rattle.serving.specs.Serving.{gdb_service}
use Rattle.serving.specs.Words.{Replies}

-- The reply in its buffer.

pub as_replied : (s t : State) (payload before buffer : List ℕ) (n : ℕ) → Answers s payload before buffer n t → length buffer ≡ 4100 → Replies (gdb_service false) s payload buffer n t
as_replied s t payload before buffer n a long =
    let l = length-append (framed (reply s payload)) (drop n before) in
    let k = ap length (sym a.buffer_is) ∙ long in
    record { front = rw a.buffer_is (take_at (framed (reply s payload)) (drop n before) n (sym a.how_many)); fits = omega (arith, a.how_many); session = a.session }

length_registers : length (framed registers) ≡ 332
length_registers = refl

pub as_known : (s t : State) (payload before buffer after : List ℕ) (n m : ℕ) → Answers s payload before buffer n t → length buffer ≡ 4100
    → MakesPcKnown payload buffer after n m → Replies (gdb_service true) s payload after m t
as_known s t payload before buffer after n m a long k = let h = step (asks_registers payload) k.how_many k.buffer in record { front = h.0; fits = h.1; session = a.session }
  where
    step : (b : Bool) → m ≡ (if b then 332 else n) → after ≡ (if b then framed registers ++ drop 332 buffer else buffer)
        → (take m after ≡ framed (if b then registers else reply s payload)) × (m ≤ 4100)
    step true how_many is = (rw is (take_at (framed registers) (drop 332 buffer) m (length_registers ∙ sym how_many)), omega arith)
    step false how_many is = let h = as_replied s t payload before buffer n a long in rw (is, how_many) (h.front, h.fits)
