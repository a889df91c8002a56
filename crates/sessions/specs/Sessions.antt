use Rattle.std.specs.Prelude.{◌≡◌, Bool, true, false, List, ℕ}
use Rattle.spaces.specs.Piles.{Pile}
use Rattle.packets.specs.Items as items
use Rattle.packets.specs.Hearing as hearing
use Rattle.sessions.specs.declared.pile_server.PileServer.{PileServer}
use Rattle.sessions.specs.declared.heard.Heard.{Heard}
use Rattle.sessions.specs.declared.heard.Heard.TheVariants.{Packet, Other}
use Rattle.sessions.specs.States.{State}

-- what the server of a pile in the program is, and what the program heard

abbrev pub state : {S : Type 0} → (S → Pile) → PileServer S → State
state meaning s = record { pile = meaning s.space; depth = s.depth; last = s.last }

-- the item that was heard, and whether a reply is owed
abbrev pub item_of : Heard → items.Heard
item_of (Packet owed payload) = items.packet payload.now
item_of (Other talk item) = items.meant item

abbrev pub owes : Heard → Bool
owes (Packet owed payload) = true
owes (Other talk item) = false

abbrev pub is_packet : items.Heard → Bool
is_packet (items.packet payload) = true
is_packet other = false

-- what hearing answers: the item, and a talk that owes a reply if, and only if, the item is a packet
pub record HearsItem (received : List ℕ) (r : Heard) : Type 0 where
  pub item : item_of r ≡ hearing.heard received
  pub owes_one : owes r ≡ is_packet (hearing.heard received)
