use Rattle.std.specs.Prelude.{◌≡◌, ℕ, ◌+◌, ◌^◌, ◌<◌, ◌≤◌, true, ◌⊎◌, [], map, length, is_some, Some, None, Ok, Err, Option, ◌≢◌, slice_index}
use Rattle.spaces.specs.declared.refusal.EditRefusal.{EditRefusal}
use Rattle.spaces.specs.declared.refusal.EditRefusal.TheVariants.{PastTheEnd, NoOverlay, TooManyPatches}
use Rattle.spaces.specs.Patches.{Patches, lookup}
use Rattle.spaces.specs.Piles.{Layer, plain, overlay, Pile, Lawful, LawfulPile}
use Rattle.spaces.specs.Edits.{Edit, setting, clearing, first_of, count_of, patches_at, refusal, edited, Outcome, outcome}

-- What sets and clears do, in plain words. The definitions in Edits are proved to keep these laws.

-- the patch of each address, or none
abbrev pub Patching : Type 0
Patching = ℕ → Option ℕ

abbrev pub Patched : Patching → ℕ → Type 0
Patched ps a = is_some (ps a) ≡ true

-- the addresses of an edit, and all others
abbrev pub Inside : Edit → ℕ → Type 0
Inside e a = (first_of e ≤ a) × (a < first_of e + count_of e)

abbrev pub Outside : Edit → ℕ → Type 0
Outside e a = (a < first_of e) ⊎ (first_of e + count_of e ≤ a)

-- what an edit leaves at the address that is i places behind its first
abbrev pub leaves : Edit → ℕ → Option ℕ
leaves (setting first bytes) i = Some (slice_index bytes i)
leaves (clearing first count) i = None

-- an accepted edit: its addresses have what it leaves there, all others what they had
pub record Changes (e : Edit) (old new : Patching) : Type 0 where
  pub inside : (i : ℕ) → i < count_of e → new (first_of e + i) ≡ leaves e i
  pub outside : (a : ℕ) → Outside e a → new a ≡ old a

-- the addresses whose patch an edit sets or takes back
abbrev pub Touches : Edit → Patching → ℕ → Type 0
Touches (setting first bytes) old a = Inside (setting first bytes) a
Touches (clearing first count) old a = Inside (clearing first count) a × Patched old a

-- what an accepted edit does to each of them: a set leaves a patch there, a clear takes one back
abbrev pub Touched : Edit → (old new : Patching) → ℕ → Type 0
Touched (setting first bytes) old new a = Patched new a
Touched (clearing first count) old new a = Patched old a × (new a ≡ None)

-- the addresses that would be patched after an edit
abbrev pub Would : Edit → Patching → ℕ → Type 0
Would (setting first bytes) old a = Inside (setting first bytes) a ⊎ Patched old a
Would (clearing first count) old a = Outside (clearing first count) a × Patched old a

-- exactly n numbers have a property: they can be listed in order
pub record Exactly (n : ℕ) (P : ℕ → Type 0) : Type 0 where
  pub nth : ℕ → ℕ
  pub each : (k : ℕ) → k < n → P (nth k)
  pub apart : (i j : ℕ) → i < j → j < n → nth i < nth j
  pub every : (a : ℕ) → P a → (k : ℕ) × (k < n) × (nth k ≡ a)

-- refused if, and only if, more than 256 addresses would be patched afterwards
pub record Weighed (e : Edit) (old : Patching) (r : Outcome) : Type 0 where
  pub afterwards : ℕ
  pub exact : Exactly afterwards (Would e old)
  pub too_many : 256 < afterwards → r ≡ Err TooManyPatches
  pub accepted : afterwards ≤ 256 → r ≡ Ok tt

-- an edit of an overlay
pub record EditLaws (e : Edit) (old new : Patches) (r : Outcome) : Type 0 where
  pub accepted : r ≡ Ok tt → Changes e (lookup old) (lookup new)
  pub touched : r ≡ Ok tt → (a : ℕ) → Touches e (lookup old) a → Touched e (lookup old) (lookup new) a
  pub refused : (n : EditRefusal) → r ≡ Err n → new ≡ old
  pub empty : count_of e ≡ 0 → new ≡ old
  pub past : 2 ^ 64 < first_of e + count_of e → r ≡ Err PastTheEnd
  pub weighed : first_of e + count_of e ≤ 2 ^ 64 → Weighed e (lookup old) r
  pub few : length new ≤ 256

-- a clear is refused for nothing but its end: taking patches back never makes too many
abbrev pub ClearLaw : ℕ → ℕ → Outcome → Type 0
ClearLaw first count r = first + count ≤ 2 ^ 64 → r ≡ Ok tt

-- an edit at a depth where no overlay is
pub record NoneThere (e : Edit) (old new : Pile) (r : Outcome) : Type 0 where
  pub same : new ≡ old
  pub past : 2 ^ 64 < first_of e + count_of e → r ≡ Err PastTheEnd
  pub refused : first_of e + count_of e ≤ 2 ^ 64 → r ≡ Err NoOverlay

-- a pile without its patches
abbrev pub bare_layer : Layer → Layer
bare_layer (plain r) = plain r
bare_layer (overlay ps) = overlay []

abbrev pub bare : Pile → Pile
bare p = record { layers = map bare_layer p.layers; base = p.base }

-- an edit of a pile at a depth: the overlay there is edited, nothing else changes, and the pile keeps its laws
pub record PileEditLaws (k : ℕ) (e : Edit) (old new : Pile) (r : Outcome) : Type 0 where
  pub overlay : (ps : Patches) → patches_at old.layers k ≡ Some ps → (qs : Patches) × (patches_at new.layers k ≡ Some qs) × EditLaws e ps qs r
  pub none : patches_at old.layers k ≡ None → NoneThere e old new r
  pub elsewhere : (j : ℕ) → (j ≢ k) → patches_at new.layers j ≡ patches_at old.layers j
  pub rest : bare new ≡ bare old
  pub lawful : Lawful new

abbrev pub EveryEditChangesItsAddressesAlone : Type 0
EveryEditChangesItsAddressesAlone = (p : LawfulPile) (k : ℕ) (e : Edit) → PileEditLaws k e p.pile (edited p.pile k e) (outcome (refusal p.pile k e))
