use Prim.Native.Char.{code}
use Rattle.std.specs.Prelude.{ℕ, ◌+◌, List, length, Some, None, Option}
use Rattle.packets.specs.declared.frame_refusal.FrameRefusal.{FrameRefusal}
use Rattle.packets.specs.declared.frame_refusal.FrameRefusal.TheVariants.{WrongSum, NoEnd}
use Rattle.packets.specs.declared.item.Item as declared
use Rattle.packets.specs.declared.item.Item.TheVariants as is

-- what is heard first in the bytes received
pub data Heard : Type 0 where
  unfinished : Heard
  resend : Heard
  ignored : Heard
  wrong_sum : (used : ℕ) → Heard
  no_end : Heard
  packet : (payload : List ℕ) → Heard

-- what an item of the program is
abbrev pub meant : declared.Item → Heard
meant is.Unfinished = unfinished
meant is.Resend = resend
meant is.Ignored = ignored
meant (is.WrongSum used) = wrong_sum used
meant is.NoEnd = no_end
meant (is.Packet payload) = packet payload.now

-- what there is to say of an item: how many bytes it uses, its refusal if it has one, the acknowledgment that is due if one is
pub record Said : Type 0 where
  pub used : ℕ
  pub refusal : Option FrameRefusal
  pub due : Option ℕ

abbrev pub said : Heard → Said
said unfinished = record { used = 0; refusal = None; due = None }
said resend = record { used = 1; refusal = None; due = None }
said ignored = record { used = 1; refusal = None; due = None }
said (wrong_sum used) = record { used = used; refusal = Some WrongSum; due = Some (code "-") }
said no_end = record { used = 1; refusal = Some NoEnd; due = None }
said (packet payload) = record { used = length payload + 4; refusal = None; due = Some (code "+") }
