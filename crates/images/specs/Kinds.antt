use Rattle.std.specs.Prelude.{ℕ, ◌+◌, ◌-◌, cond, Some, None, Option}
use Rattle.extents.specs.Bounds.{Bounds, contains}
use Rattle.images.specs.declared.raw.RawExtent.{RawExtent}
use Rattle.images.specs.declared.range.LimeRange.{LimeRange}

-- The kinds of stored extents: the ends of each, and where the byte of an address lies in the file.

abbrev pub raw_bounds : RawExtent → Bounds
raw_bounds e = record { first = 0; last = e.last }

-- an address is its own place
abbrev pub raw_places : RawExtent → ℕ → Option ℕ
raw_places e a = cond (contains (raw_bounds e) a) (Some a) None

abbrev pub lime_bounds : LimeRange → Bounds
lime_bounds r = record { first = r.first; last = r.last }

-- the bytes of a range lie in a row from its place on
abbrev pub lime_places : LimeRange → ℕ → Option ℕ
lime_places r a = cond (contains (lime_bounds r) a) (Some (r.place + (a - r.first))) None
