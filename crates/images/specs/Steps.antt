use Rattle.std.specs.Prelude.{◌≡◌, ℕ, zero, suc, if◌then◌else◌, List, [], ◌∷◌, ◌++◌, length, Some, None, Ok, Err, Option, Result, MatchResult, nat_lt}
use Rattle.std.specs.Option.{option_map_or}
use Rattle.extents.specs.declared.table.Table.{Table}
use Rattle.extents.specs.Bounds.{Bounds}
use Rattle.extents.specs.Tables.{held, room, Pushed, overlaps_any}
use Rattle.images.specs.declared.refusal.LoadRefusal.{LoadRefusal}
use Rattle.images.specs.declared.refusal.LoadRefusal.TheVariants.{Overlap, TableFull}
use Rattle.images.specs.Loads.{Load}

-- A load of any kind of extents, step by step. A kind brings its ends (`bounds`) and what stands at each place of its file.

-- what stands at a place: nothing more, a header that is refused, or an extent and the place of what comes next
pub data NextHeader (E : Type 0) : Type 0 where
  no_header : NextHeader E
  refused_header : LoadRefusal → NextHeader E
  header_of : E → (behind : ℕ) → NextHeader E

-- the same by a header as it is read, where what comes next stands `behind` its extent
abbrev pub as_next : {E : Type 0} → (behind : E → ℕ) → Result E LoadRefusal → NextHeader E
as_next behind (Ok e) = header_of e (behind e)
as_next behind (Err refusal) = refused_header refusal

-- the load ends with a refusal at a place
abbrev pub stopped : {E : Type 0} → List E → LoadRefusal → (place : ℕ) → Load E
stopped before refusal place = record { extents = before; refused = Some (refusal, place) }

module _ {E : Type 0} (bounds : E → Bounds) where
  -- why an extent is not added behind others to a table of so much room: it overlaps one of them, or there is no room
  abbrev pub addition_refusal : (room : ℕ) → List E → E → Option LoadRefusal
  addition_refusal room before e =
      if overlaps_any bounds before (bounds e) then Some Overlap
      else if nat_lt (length before) room then None
      else Some TableFull

  -- adding an extent to the table `t` answers `r` and leaves the table `u`
  pub record Adds (t u : Table E) (e : E) (r : Result (Unit {0}) LoadRefusal) : Type 0 where
    pub answer : r ≡ option_map_or Err (addition_refusal (room t) (held t) e) (Ok tt)
    pub table : MatchResult r (λ _. Pushed t u e (Ok tt)) (λ _. u ≡ t)

  -- the next extent, unless its header is refused or it is not added
  abbrev pub next_extent : Result E LoadRefusal → (room : ℕ) → List E → Result E LoadRefusal
  next_extent (Ok e) room before = option_map_or Err (addition_refusal room before e) (Ok e)
  next_extent (Err refusal) room before = Err refusal

  -- the same step from a header on
  pub record AddsNext (header : Result E LoadRefusal) (t u : Table E) (r : Result E LoadRefusal) : Type 0 where
    pub answer : r ≡ next_extent header (room t) (held t)
    pub table : MatchResult r (λ e. Pushed t u e (Ok tt)) (λ _. u ≡ t)

  -- From what stands at a place on, behind the extents before it: `onward` is the load with one extent more. What is refused is
  -- the refusal of `addition_refusal`, by the room that is left.
  abbrev pub load_by : NextHeader E → (place : ℕ) → List E → (E → (behind : ℕ) → Load E) → Load E
  load_by no_header place before onward = record { extents = before; refused = None }
  load_by (refused_header refusal) place before onward = stopped before refusal place
  load_by (header_of e behind) place before onward =
      if overlaps_any bounds before (bounds e) then stopped before Overlap place else onward e behind

  -- the load from a place on, where the table has room for so many extents more
  abbrev pub load_from : (ℕ → NextHeader E) → (room place : ℕ) → List E → Load E
  load_from header zero place before = load_by (header place) place before (λ e behind. stopped before TableFull place)
  load_from header (suc room) place before =
      load_by (header place) place before (λ e behind. load_from header room behind (before ++ (e ∷ [])))
