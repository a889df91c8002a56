use Rattle.std.specs.Prelude.{◌≡◌, ℕ, ◌+◌, Bool, cond, List, [], ◌∷◌, ◌++◌, length, take, Some, Option, MatchOption, Ok, Err, is_ok, Result, MatchResult, nat_lt, slice_set}
use denote.Ref.{MutBor, at_last}
use Rattle.std.specs.List.{slice_get, find, list_any}
use Rattle.extents.specs.declared.table.Full.{Full}
use Rattle.extents.specs.declared.table.Table.{Table}
use Rattle.extents.specs.Bounds.{Bounds, Contains, Overlap, contains, overlaps}

-- The memory that a table lies in is part of it: `at_last` is the same memory with other contents, which whoever lent it
-- finds there when the table ends.

-- how many extents there is room for
abbrev pub room : {E : Type 0} → Table E → ℕ
room t = length t.entries.now

-- the extents that the table holds: the first `count` of its memory
abbrev pub held : {E : Type 0} → Table E → List E
held t = take t.count t.entries.now

-- `t` is the table over this memory that holds `n` extents
pub record IsTable {E : Type 0} (t : Table E) (memory : MutBor (List E)) (n : ℕ) : Type 0 where
  pub entries : t.entries ≡ memory
  pub count : t.count ≡ n

-- why a push is refused
abbrev pub full : Full
full = record {}

-- a push of `e` to the table `t` answers `r` and leaves the table `u`: one entry is written, or nothing changes
pub record Pushed {E : Type 0} (t u : Table E) (e : E) (r : Result (Unit {0}) Full) : Type 0 where
  pub answer : r ≡ cond (nat_lt (length (held t)) (room t)) (Ok tt) (Err full)
  pub after : MatchResult r (λ _. IsTable u (at_last t.entries (slice_set t.entries.now t.count e)) (t.count + 1)) (λ _. u ≡ t)
  pub holds : held u ≡ cond (is_ok r) (held t ++ e ∷ []) (held t)

-- Searches among extents, whose ranges `bounds` gives.

-- the first that contains the address
abbrev pub first_containing : {E : Type 0} → (E → Bounds) → List E → ℕ → Option E
first_containing bounds es a = find (λ e. contains (bounds e) a) es

-- none contains the address
abbrev pub NoneContains : {E : Type 0} → (E → Bounds) → List E → ℕ → Type 0
NoneContains {E} bounds es a = (k : ℕ) (e : E) → slice_get es k ≡ Some e → Contains (bounds e) a → ⊥

-- `e` stands among them and contains the address, and none before it does
pub record FirstContaining {E : Type 0} (bounds : E → Bounds) (es : List E) (a : ℕ) (e : E) : Type 0 where
  pub place : ℕ
  pub stands : slice_get es place ≡ Some e
  pub contains : Contains (bounds e) a
  pub none_before : NoneContains bounds (take place es) a

-- what an answer of `first_containing` says
abbrev pub Finds : {E : Type 0} → (E → Bounds) → List E → ℕ → Option E → Type 0
Finds bounds es a r = MatchOption r (NoneContains bounds es a) (FirstContaining bounds es a)

-- whether one overlaps the range
abbrev pub overlaps_any : {E : Type 0} → (E → Bounds) → List E → Bounds → Bool
overlaps_any bounds es x = list_any (λ e. overlaps (bounds e) x) es

-- one shares an address with the range
pub record OverlapAny {E : Type 0} (bounds : E → Bounds) (es : List E) (x : Bounds) : Type 0 where
  pub place : ℕ
  pub extent : E
  pub stands : slice_get es place ≡ Some extent
  pub overlap : Overlap (bounds extent) x
