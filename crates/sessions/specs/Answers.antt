use Rattle.std.specs.Prelude.{◌≡◌, ℕ, List, [], ◌∷◌, ◌++◌, length, drop, replicate, codes, Some, None, Ok, Err, Option, Result}
use Prim.Native.Char.{code}
use Rattle.spaces.specs.declared.fault.Fault.{Fault}
use Rattle.spaces.specs.declared.refusal.EditRefusal.{EditRefusal}
use Rattle.spaces.specs.Piles.{shown}
use Rattle.spaces.specs.Reads.{Got, got}
use Rattle.spaces.specs.Edits.{setting, refusal}
use Rattle.packets.specs.declared.command_refusal.CommandRefusal.{CommandRefusal}
use Rattle.packets.specs.Digits.{digits, spell, paired}
use Rattle.packets.specs.Frames.{framed}
use Rattle.packets.specs.Asking.{asked}
use Rattle.packets.specs.Commands.{Asked, why_halted, read, write, registers, detach, thread, supported, depth, last_fault, unknown}
use Rattle.patchfiles.specs.declared.stopped.Stopped.{Stopped}
use Rattle.patchfiles.specs.Files.{answer_by, left_of}
use Rattle.patchfiles.specs.Files.{asked as file_asked}
use Rattle.patchfiles.specs.Runs.{left_by}
use Rattle.sessions.specs.declared.refusal.PayloadRefusal.{PayloadRefusal}
use Rattle.sessions.specs.declared.refusal.PayloadRefusal.TheVariants as why
use Rattle.sessions.specs.Refusals.{payload_refusal_number}
use Rattle.sessions.specs.States.{State}
use Rattle.sessions.specs.Effects.{asked_for, written_by, deepened_by, met_by}

-- What a session replies to a payload, and what it is afterwards.

-- `E` and a number
abbrev pub failed : ℕ → List ℕ
failed number = code "E" ∷ digits 2 number

-- the bytes that a read got, or the cause why the very first address has none
abbrev pub spoken : List ℕ → Option Fault → List ℕ
spoken [] None = []
spoken [] (Some fault) = failed fault.cause
spoken (b ∷ bytes) met = spell (b ∷ bytes)

abbrev pub read_text : Got → List ℕ
read_text g = spoken g.bytes g.fault

-- done, or the refusal of an edit
abbrev pub done : Option EditRefusal → Result (List ℕ) PayloadRefusal
done None = Ok (codes "OK")
done (Some refusal) = Err (why.Edit refusal)

-- a fault by its depth, its address and its cause
abbrev pub fault_reply : Option Fault → List ℕ
fault_reply None = codes "none"
fault_reply (Some f) = digits 2 f.depth ++ (codes "," ++ (digits 16 f.address ++ (codes "," ++ digits 2 f.cause)))

-- the reply to a command, or the refusal of the edit that it asks for
abbrev pub told : State → Asked → Result (List ℕ) PayloadRefusal
told s why_halted = Ok (codes "S05")
told s (read first count) = Ok (read_text (got (shown s.pile) (asked_for first count)))
told s (write first digits) = done (refusal s.pile s.depth (setting first (paired digits)))
told s registers = Ok (replicate 328 (code "x"))
told s detach = Ok (codes "OK")
told s thread = Ok (codes "OK")
told s supported = Ok (codes "PacketSize=1000")
told s (depth k) = Ok (codes "OK")
told s last_fault = Ok (fault_reply s.last)
told s unknown = Ok []

-- the same of a payload, which may be refused as it stands
abbrev pub told_by : State → Result Asked CommandRefusal → Result (List ℕ) PayloadRefusal
told_by s (Ok asked) = told s asked
told_by s (Err refusal) = Err (why.Command refusal)

-- a refusal is replied by its number
abbrev pub text_of : Result (List ℕ) PayloadRefusal → List ℕ
text_of (Ok text) = text
text_of (Err refusal) = failed (payload_refusal_number refusal)

abbrev pub reply : State → List ℕ → List ℕ
reply s payload = text_of (told_by s (asked payload))

-- the latest of two faults
abbrev pub latest : Option Fault → Option Fault → Option Fault
latest None before = before
latest (Some f) before = Some f

-- the session after a command, and after a payload
abbrev pub after_asked : State → Result Asked CommandRefusal → State
after_asked s a = record { pile = left_by (written_by s.depth a) s.pile; depth = deepened_by s.depth a; last = latest (met_by (shown s.pile) a) s.last }

abbrev pub after : State → List ℕ → State
after s payload = after_asked s (asked payload)

-- what answering a payload leaves: the reply's frame in front of the buffer, whose rest is as it was, and the session
pub record Answers (s : State) (payload before buffer : List ℕ) (n : ℕ) (t : State) : Type 0 where
  pub how_many : n ≡ length (framed (reply s payload))
  pub buffer_is : buffer ≡ framed (reply s payload) ++ drop n before
  pub session : t ≡ after s payload

-- the session after a file: the pile alone changes
abbrev pub applied_to : State → List ℕ → State
applied_to s file = record { pile = left_of (file_asked file) s.pile; depth = s.depth; last = s.last }

-- what applying a file answers and leaves
pub record AppliesTo (s : State) (file : List ℕ) (r : Result ℕ Stopped) (t : State) : Type 0 where
  pub answer : r ≡ answer_by (file_asked file) s.pile
  pub session : t ≡ applied_to s file
