use Rattle.std.specs.Prelude.{◌≡◌, ℕ, ◌+◌, ◌-◌, ◌<◌, ◌≤◌, List, [], ◌∷◌, length, Some, Ok, Err, slice_index}
use Rattle.std.specs.List.{slice_get}
use Rattle.images.specs.declared.cause.ImageCause.TheVariants.{NoExtent, NotStored}
use Rattle.images.specs.declared.refusal.LoadRefusal.{LoadRefusal}
use Rattle.images.specs.declared.refusal.LoadRefusal.TheVariants.{HeaderCut, BadHeader, Overlap, TableFull}
use Rattle.extents.specs.Tables.{OverlapAny}
use Rattle.endian.specs.Little.{number_at}
use Rattle.images.specs.declared.load.NotLoaded.{NotLoaded}
use Rattle.images.specs.declared.range.LimeRange.{LimeRange}
use Rattle.images.specs.Kinds.{lime_bounds, lime_places}
use Rattle.images.specs.Images.{image, Apart}

-- the header of a range stands whole at a place of the file, and the range's bytes begin behind it
pub record Header (file : List ℕ) (place : ℕ) (r : LimeRange) : Type 0 where
  pub whole : place + 32 ≤ length file
  pub magic : number_at file place 4 ≡ 0x4C694D45
  pub version : number_at file (place + 4) 4 ≡ 1
  pub first : number_at file (place + 8) 8 ≡ r.first
  pub last : number_at file (place + 16) 8 ≡ r.last
  pub upward : r.first ≤ r.last
  pub bytes : r.place ≡ place + 32

-- from a place of the file these ranges, one behind the other, lead to another place: a range has a byte for each address
pub data Leads (file : List ℕ) : ℕ → List LimeRange → ℕ → Type 0 where
  here : {place : ℕ} → Leads file place [] place
  range : {place stop : ℕ} {r : LimeRange} {rs : List LimeRange} → Header file place r → Leads file (r.place + (r.last - r.first + 1)) rs stop → Leads file place (r ∷ rs) stop

-- A file that loads is its ranges to the end, no two of them overlap, and the image shows exactly their bytes: at an
-- address of a range its byte, or cause 02 where the file ends before it, and cause 01 at any other address.
pub record ShowsRanges (file : List ℕ) (extents : List LimeRange) : Type 0 where
  pub stop : ℕ
  pub ranges : Leads file 0 extents stop
  pub whole : length file ≤ stop
  pub apart : Apart lime_bounds extents
  pub byte : (k a : ℕ) (r : LimeRange) → slice_get extents k ≡ Some r → r.first ≤ a → a ≤ r.last → r.place + (a - r.first) < length file
      → image lime_bounds lime_places extents file a ≡ Ok (slice_index file (r.place + (a - r.first)))
  pub lacking : (k a : ℕ) (r : LimeRange) → slice_get extents k ≡ Some r → r.first ≤ a → a ≤ r.last → length file ≤ r.place + (a - r.first)
      → image lime_bounds lime_places extents file a ≡ Err NotStored
  pub absent : (a : ℕ) → ((k : ℕ) (r : LimeRange) → slice_get extents k ≡ Some r → r.first ≤ a → a ≤ r.last → ⊥) → image lime_bounds lime_places extents file a ≡ Err NoExtent

-- Why the header at a place is refused, where a table of so much room holds the ranges before it. Each reason leaves out
-- those before it, so that a header has one at most.
pub data Why (file : List ℕ) (room : ℕ) (before : List LimeRange) (place : ℕ) : LoadRefusal → Type 0 where
  cut : length file < place + 32 → Why file room before place HeaderCut
  bad : place + 32 ≤ length file → ((r : LimeRange) → Header file place r → ⊥) → Why file room before place BadHeader
  overlapping : {r : LimeRange} → Header file place r → OverlapAny lime_bounds before (lime_bounds r) → Why file room before place Overlap
  full : {r : LimeRange} → Header file place r → (OverlapAny lime_bounds before (lime_bounds r) → ⊥) → length before ≡ room → Why file room before place TableFull

-- A file that is refused is its ranges up to the header in question, no two of them overlap, and they stay in the table.
pub record StopsAt (file : List ℕ) (room : ℕ) (extents : List LimeRange) (n : NotLoaded) : Type 0 where
  pub ranges : Leads file 0 extents n.place
  pub inside : n.place < length file
  pub apart : Apart lime_bounds extents
  pub why : Why file room extents n.place n.refusal
  pub written : n.written ≡ length extents
