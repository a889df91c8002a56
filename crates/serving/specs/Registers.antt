use Prim.Native.Char.{code}
use Rattle.std.specs.Prelude.{◌≡◌, ◌≢◌, ℕ, Bool, true, false, if◌then◌else◌, List, ◌++◌, drop, replicate, codes, Ok, Err, Result}
use Rattle.packets.specs.declared.command_refusal.CommandRefusal.{CommandRefusal}
use Rattle.packets.specs.Asking.{asked}
use Rattle.packets.specs.Frames.{framed}
use Rattle.packets.specs.Commands as commands
use Rattle.packets.specs.Commands.{Asked}

-- The registers with a program counter that is known.

-- 328 letters, of which 256 to 271 are the digits of rip
abbrev pub registers : List ℕ
registers = replicate 256 (code "x") ++ (replicate 16 (code "0") ++ replicate 56 (code "x"))

-- whether a payload asks for the registers
abbrev pub for_registers : Asked → Bool
for_registers commands.registers = true
for_registers other = false

abbrev pub for_registers_by : Result Asked CommandRefusal → Bool
for_registers_by (Ok asked) = for_registers asked
for_registers_by (Err refusal) = false

abbrev pub asks_registers : List ℕ → Bool
asks_registers payload = for_registers_by (asked payload)

-- Where the payload asks for the registers, their frame is in front of the reply buffer, whose rest is as it was, and this is
-- its length. Where it does not, nothing changes.
pub record MakesPcKnown (payload before after : List ℕ) (old new : ℕ) : Type 0 where
  pub how_many : new ≡ (if asks_registers payload then 332 else old)
  pub buffer : after ≡ (if asks_registers payload then framed registers ++ drop 332 before else before)

-- the same in the protocol's words: `g` asks for them, and nothing else does
pub record OnlyForG (payload before after : List ℕ) (old new : ℕ) : Type 0 where
  pub for_g : payload ≡ codes "g" → (new ≡ 332) × (after ≡ framed registers ++ drop 332 before)
  pub for_others : payload ≢ codes "g" → (new ≡ old) × (after ≡ before)
