use Rattle.std.specs.Prelude.{ℕ, min, List, length, Ok, Err, Result}
use Rattle.images.specs.declared.load.NotLoaded.{NotLoaded}
use Rattle.images.specs.declared.range.LimeRange.{LimeRange}
use Rattle.images.specs.Refusals.{load_refusal_number}
use Rattle.images.specs.Loads.{Load, answer}
use Rattle.images.specs.Lime.{lime}
use Rattle.exports.specs.declared.told.Told.{Told}
use Rattle.exports.specs.Tellings.{done, refused}

-- A load of a dump, all of its bytes.

-- what is loaded with room for so many ranges, 64 at the most. It unfolds only where a proof asks: it is one step deep for each
-- range.
unfoldable pub loaded : (room : ℕ) (dump : List ℕ) → Load LimeRange
loaded room dump = lime (min room 64) dump

-- what is told of it
abbrev pub told_by : Result ℕ NotLoaded → Told
told_by (Ok count) = done 0 count
told_by (Err stopped) = refused (load_refusal_number stopped.refusal) stopped.place stopped.written

abbrev pub told_of : Load LimeRange → Told
told_of load = told_by (answer load.refused (length load.extents))
