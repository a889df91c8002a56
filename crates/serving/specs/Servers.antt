use Rattle.std.specs.Prelude.{ℕ, Bool, List, take}
use Rattle.spaces.specs.Piles.{Pile}
use Rattle.sessions.specs.States.{State}
use Rattle.sessions.specs.Services.{Service}
use Rattle.sessions.specs.Sessions.{state}
use Rattle.serving.specs.declared.latest.Latest.{Latest}
use Rattle.serving.specs.declared.received.Received.{Received}
use Rattle.serving.specs.declared.server.Server.{Server}
use Rattle.serving.specs.Serving.{Served, gdb_service}

-- what servers of the program are, and their buffers

abbrev pub latest : Latest → List ℕ
latest l = take l.count l.reply

abbrev pub pending : Received → List ℕ
pending r = take r.count r.bytes

abbrev pub served : {S : Type 0} → (S → Pile) → Server S → Served State
served meaning s = record { session = state meaning s.pile_server; latest = latest s.latest }

abbrev pub knows_pc : {S : Type 0} → Server S → Bool
knows_pc s = s.known_pc

-- what it replies, and its state afterwards, by whether it makes the program counter known
abbrev pub service : {S : Type 0} → Server S → Service State
service s = gdb_service (knows_pc s)
