use Rattle.std.specs.Prelude.{◌≡◌, ℕ, List, ◌++◌, length, drop, Some, None, Ok, Err, Option, Result}
use denote.Ref.{at_last}
use Rattle.images.specs.declared.refusal.LoadRefusal.{LoadRefusal}
use Rattle.extents.specs.declared.table.Table.{Table}
use Rattle.extents.specs.Tables.{IsTable}
use Rattle.images.specs.declared.load.NotLoaded.{NotLoaded}

-- what a loader makes of a file: the extents that it writes, and the refusal that ends it, with the place of the header in question
pub record Load (E : Type 0) : Type 0 where
  pub extents : List E
  pub refused : Option (LoadRefusal × ℕ)

-- the answer, by the number of extents written
abbrev pub answer : Option (LoadRefusal × ℕ) → ℕ → Result ℕ NotLoaded
answer None n = Ok n
answer (Some (refusal, place)) n = Err (record { refusal = refusal; place = place; written = n })

-- the table `u` is `t` with these extents in front, and all entries behind them as they were
abbrev pub Filled : {E : Type 0} → List E → Table E → Table E → Type 0
Filled es t u = IsTable u (at_last t.entries (es ++ drop (length es) t.entries.now)) (length es)

-- a load answers r and makes u of the table t
pub record Loads {E : Type 0} (load : Load E) (t u : Table E) (r : Result ℕ NotLoaded) : Type 0 where
  pub answers : r ≡ answer load.refused (length load.extents)
  pub table : Filled load.extents t u
