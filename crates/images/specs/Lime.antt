use Rattle.std.specs.Prelude.{ℕ, ◌+◌, ◌-◌, Bool, cond, if◌then◌else◌, ◌&&◌, List, [], length, Some, None, Ok, Err, Option, Result, ◌==◌, nat_le, nat_lt}
use Rattle.endian.specs.Little.{number_at}
use Rattle.images.specs.declared.refusal.LoadRefusal.{LoadRefusal}
use Rattle.images.specs.declared.refusal.LoadRefusal.TheVariants.{HeaderCut, BadHeader}
use Rattle.images.specs.declared.lime.Header.{Header}
use Rattle.images.specs.declared.range.LimeRange.{LimeRange}
use Rattle.images.specs.Kinds.{lime_bounds}
use Rattle.images.specs.Loads.{Load}
use Rattle.images.specs.Steps.{NextHeader, no_header, as_next, load_from}

-- A LiME file is ranges until its end. A range is a header of 32 bytes and its bytes, one for each address.

-- what the header at a place says, if the file has it whole; eight bytes of it are unread
abbrev pub header_in : List ℕ → ℕ → Option Header
header_in file place = cond (nat_lt (length file) (place + 32)) None
    (Some (record { magic = number_at file place 4; version = number_at file (place + 4) 4; first = number_at file (place + 8) 8; last = number_at file (place + 16) 8 }))

abbrev pub sound : Header → Bool
sound h = h.magic == 0x4C694D45 && (h.version == 1 && nat_le h.first h.last)

-- the range whose header stands at a place, by what the header says
abbrev pub range_of : ℕ → Option Header → Result LimeRange LoadRefusal
range_of place None = Err HeaderCut
range_of place (Some h) = cond (sound h) (Ok (record { first = h.first; last = h.last; place = place + 32 })) (Err BadHeader)

-- the place behind a range's bytes
abbrev pub end_of : LimeRange → ℕ
end_of r = r.place + (r.last - r.first + 1)

abbrev pub header_at : List ℕ → ℕ → Result LimeRange LoadRefusal
header_at file place = range_of place (header_in file place)

-- what stands at a place: the file's end, or a header
abbrev pub lime_header : List ℕ → (place : ℕ) → NextHeader LimeRange
lime_header file place = if nat_le (length file) place then no_header else as_next end_of (header_at file place)

abbrev pub lime : (room : ℕ) → List ℕ → Load LimeRange
lime room file = load_from lime_bounds (lime_header file) room 0 []
