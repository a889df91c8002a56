use Rattle.std.specs.Prelude.{ℕ, List, [], ◌∷◌, None, ◌≡◌}
use Rattle.spaces.specs.Piles.{Pile}
use Rattle.packets.specs.Asking.{asked}
use Rattle.patchfiles.specs.Files as files
use Rattle.patchfiles.specs.Runs.{Mark, refused, marked, left_by}
use Rattle.sessions.specs.Effects.{written_by, deepened_by}
use Rattle.sessions.specs.Histories.{Event, heard, answered, applied, History}

-- The patch book is fed the payloads answered and the files applied, and nothing else: neither replies nor outcomes.

-- the edit depth, and the pile under the patches in force
pub record Book : Type 0 where
  pub depth : ℕ
  pub pile : Pile

-- the edits that an event asks for
abbrev pub marks : Book → Event → List Mark
marks b (heard received) = []
marks b (answered payload frame) = written_by b.depth (asked payload)
marks b (applied file outcome) = files.filed (files.asked file)

abbrev pub depth_after : ℕ → Event → ℕ
depth_after d (heard received) = d
depth_after d (answered payload frame) = deepened_by d (asked payload)
depth_after d (applied file outcome) = d

abbrev pub fed : Book → Event → Book
fed b e = record { depth = depth_after b.depth e; pile = left_by (marks b e) b.pile }

-- the book of a pile after a history
abbrev pub book : Pile → History → Book
book p [] = record { depth = 0; pile = p }
book p (e ∷ h) = fed (book p h) e

abbrev pub in_force : Pile → History → Pile
in_force p h = (book p h).pile

-- one of some marks takes effect, in the pile that those before it have left
pub data Takes : Pile → List Mark → Pile → Mark → Type 0 where
  first : {p : Pile} {m : Mark} {ms : List Mark} → refused p m ≡ None → Takes p (m ∷ ms) p m
  later : {p q : Pile} {m n : Mark} {ms : List Mark} → refused p m ≡ None → Takes (marked p m) ms q n → Takes p (m ∷ ms) q n
