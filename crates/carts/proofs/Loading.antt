use Rattle.std.proofs.Common.{◌≡◌, ℕ, List, length, drop, Ok, Err, Option, Result, Some, None, refl, arith}
use Rattle.std.proofs.Math.Seq.{take-append_seam}
use Rattle.images.specs.declared.refusal.LoadRefusal.{LoadRefusal}
use Rattle.spaces.specs.Piles.{Pile}
use Rattle.extents.specs.declared.table.Table.{Table}
use Rattle.extents.specs.Tables.{held}
use Rattle.images.specs.declared.load.NotLoaded.{NotLoaded}
use Rattle.images.specs.declared.range.LimeRange.{LimeRange}
use Rattle.images.specs.Loads.{Load, answer, Loads}
use Rattle.images.specs.Lime.{lime}
use Rattle.carts.specs.Carts.{counted, loaded, unless_refused}

-- What a load answers and leaves.

-- a load of the bytes that count, where there is room for 64 ranges
pub loads_dump : (room : ℕ) (file dump : List ℕ) (t u : Table LimeRange) (r : Result ℕ NotLoaded) → room ≡ 64 → file ≡ counted dump → Loads (lime room file) t u r
    → Loads (loaded dump) t u r
unfolding loaded
loads_dump room file dump t u r e q h = rw (e, q) at h

-- the table holds the extents
pub holds : {E : Type 0} (load : Load E) (t u : Table E) (r : Result ℕ NotLoaded) → Loads load t u r → held u ≡ load.extents
holds load t u r h = grind (arith, take-append_seam load.extents (drop (length load.extents) t.entries.now), h.table)

-- where the extents are counted there is a pile
pub accepted : (o : Option (LoadRefusal × ℕ)) (n m : ℕ) (p : Pile) → answer o n ≡ Ok m → unless_refused o p ≡ Ok p
accepted None n m p e = refl
accepted (Some x) n m p e = grind arith

-- where the load is refused there is none
pub refused : (o : Option (LoadRefusal × ℕ)) (n : ℕ) (m : NotLoaded) (p : Pile) → answer o n ≡ Err m → unless_refused o p ≡ Err m.refusal
refused None n m p e = grind arith
refused (Some x) n m p e = grind arith
