use Rattle.std.proofs.Common.{◌≡◌, ℕ, min, List, Ok, Err, Option, Result, Some, None, refl, arith}
use Rattle.images.specs.declared.refusal.LoadRefusal.{LoadRefusal}
use Rattle.extents.specs.declared.table.Table.{Table}
use Rattle.images.specs.declared.load.NotLoaded.{NotLoaded}
use Rattle.images.specs.declared.range.LimeRange.{LimeRange}
use Rattle.images.specs.Refusals.{load_refusal_number}
use Rattle.images.specs.Loads.{answer, Loads}
use Rattle.images.specs.Lime.{lime}
use Rattle.exports.specs.Loading.{loaded}
use Rattle.exports.specs.Readings.{Reading, nothing, unless_refused}

-- What a load answers and leaves.

-- a load into a table of so many entries
pub loads_dump : (entries room : ℕ) (dump : List ℕ) (t u : Table LimeRange) (r : Result ℕ NotLoaded) → entries ≡ min room 64 → Loads (lime entries dump) t u r
    → Loads (loaded room dump) t u r
unfolding loaded
loads_dump entries room dump t u r e h = rw e at h

-- where the ranges are counted there is a reading
pub accepted : (o : Option (LoadRefusal × ℕ)) (n m : ℕ) (r : Reading) → answer o n ≡ Ok m → unless_refused o r ≡ r
accepted None n m r e = refl
accepted (Some x) n m r e = grind arith

-- where the load is refused there is none
pub refused : (o : Option (LoadRefusal × ℕ)) (n : ℕ) (m : NotLoaded) (r : Reading) → answer o n ≡ Err m → unless_refused o r ≡ nothing (load_refusal_number m.refusal) m.place
refused None n m r e = grind arith
refused (Some x) n m r e = grind arith
