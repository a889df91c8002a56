use Rattle.std.specs.Prelude.{ℕ, List, Some, None, Ok, Err, Option, Result}
use Rattle.paging.specs.declared.cause.PagingCause.TheVariants.{Absent}
use Rattle.spaces.specs.declared.fault.Fault.{Fault}
use Rattle.paging.specs.Causes.{cause_number}
use Rattle.spaces.specs.Maps.{Map, own, climbed}
use Rattle.spaces.specs.Reads.{Got, span, got}
use Rattle.endian.specs.Little.{little_endian}
use Rattle.paging.specs.declared.entry.Entry.{Entry}
use Rattle.paging.specs.Formats.{Format}
use Rattle.paging.specs.Paged.{entry_at}

-- What the walk finds of one entry, in the words of the functions that read it.

-- a read's bytes as a number, or its fault as the layer above passes it up
abbrev pub number_or : Option Fault → List ℕ → Result ℕ Fault
number_or None bytes = Ok (little_endian bytes)
number_or (Some f) bytes = Err (climbed f)

abbrev pub as_number : Got → Result ℕ Fault
as_number g = number_or g.fault g.bytes

-- what a number means as an entry of a level, or the fault of one that is not present
abbrev pub present_or : (a level : ℕ) → Option Entry → Result Entry Fault
present_or a level None = Err (own a (cause_number (Absent level)))
present_or a level (Some e) = Ok e

abbrev pub decoded_or : Format → (a level : ℕ) → Result ℕ Fault → Result Entry Fault
decoded_or p a level (Ok raw) = present_or a level (p.decoded level raw)
decoded_or p a level (Err f) = Err f

abbrev pub entry_found : Format → Map → (a level table : ℕ) → Result Entry Fault
entry_found p m a level table = decoded_or p a level (as_number (got m (span (entry_at p level table a) p.width)))
