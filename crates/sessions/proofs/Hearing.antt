use Rattle.std.proofs.Common.{◌≡◌, List, ℕ, false, refl}
use denote.Ref.{Bor}
use Rattle.packets.specs.declared.item.Item.{Item}
use Rattle.packets.specs.declared.item.Item.TheVariants as is
use Rattle.packets.specs.Items.{Heard, meant}
use Rattle.sessions.specs.Sessions.{is_packet}

pub no_packet : (item : Item) (h : Heard) → meant item ≡ h → ((x : Bor (List ℕ)) → item ≡ is.Packet x → ⊥) → false ≡ is_packet h
no_packet is.Unfinished h e n = rw (← e) refl
no_packet is.Resend h e n = rw (← e) refl
no_packet is.Ignored h e n = rw (← e) refl
no_packet (is.WrongSum used) h e n = rw (← e) refl
no_packet is.NoEnd h e n = rw (← e) refl
no_packet (is.Packet payload) h e n = absurd (n payload refl)
