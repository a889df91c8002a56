use Rattle.std.specs.Prelude.{◌≡◌, ℕ, ◌≤◌, List, [], ◌∷◌, length, Some, None, Ok, Err}
use mathlib.Core.List.{Memᴰ}
use Rattle.spaces.specs.declared.fault.Fault.{Fault}
use Rattle.spaces.specs.Maps.{Map, own, raised}
use Rattle.spaces.specs.Reads.{got}
use Rattle.spaces.specs.Patches.{Patches, lookup}
use Rattle.spaces.specs.Piles.{overlay, rule, Pile, shown, from_depth, LawfulPile}
use Rattle.spaces.specs.Trails.{trail}
use Rattle.spaces.specs.Edits.{Edit, patch_at, edited}
use Rattle.spaces.specs.EditLaws.{Touches, bare}

-- What holds of every pile, whoever wrote its bottom and its layers.

-- a patched address has its patch and rests on nothing; any other has what is below, and rests on that address
pub record ShowsPatches (ps : Patches) : Type 0 where
  pub patched : (m : Map) (a b : ℕ) → lookup ps a ≡ Some b → rule (overlay ps) m a ≡ (Ok b, [])
  pub other : (m : Map) (a : ℕ) → lookup ps a ≡ None → rule (overlay ps) m a ≡ (raised (m a), a ∷ [])

abbrev pub EveryOverlayShowsItsPatches : Type 0
EveryOverlayShowsItsPatches = (ps : Patches) → ShowsPatches ps

-- the fault's depth is one of the pile's, and from that depth down the pile has, at the fault's address, a fault of its own with that cause
pub record Arose (p : Pile) (f : Fault) : Type 0 where
  pub within : f.depth ≤ length p.layers
  pub there : shown (from_depth f.depth p) f.address ≡ Err (own f.address f.cause)

abbrev pub EveryFaultAroseWhereItSays : Type 0
EveryFaultAroseWhereItSays = (p : LawfulPile) → length p.pile.layers ≤ 255 → (a : ℕ) (f : Fault) → shown p.pile a ≡ Err f → Arose p.pile f

-- two piles differ in patches alone, and in none at an address of some trail
pub record DifferOff (trail : ℕ → List ℕ) (p q : Pile) : Type 0 where
  pub layers : bare p ≡ bare q
  pub patches : (k a : ℕ) → Memᴰ a (trail k) → patch_at p k a ≡ patch_at q k a

-- a read gives the same, and rests on the same
pub record ReadsAlike (p q : Pile) (xs : List ℕ) : Type 0 where
  pub answer : got (shown p) xs ≡ got (shown q) xs
  pub rests : (k : ℕ) → trail p xs k ≡ trail q xs k

abbrev pub EveryReadRestsOnItsTrail : Type 0
EveryReadRestsOnItsTrail = (p : LawfulPile) (q : Pile) (xs : List ℕ) → DifferOff (trail p.pile xs) p.pile q → ReadsAlike p.pile q xs

-- an edit at a depth sets and takes back no patch at an address of a read's trail there
abbrev pub Misses : Pile → List ℕ → ℕ → Edit → Type 0
Misses p xs k e = (a : ℕ) → Memᴰ a (trail p xs k) → Touches e (patch_at p k) a → ⊥

abbrev pub EveryEditOffTheTrailKeepsTheRead : Type 0
EveryEditOffTheTrailKeepsTheRead = (p : LawfulPile) (k : ℕ) (e : Edit) (xs : List ℕ) → Misses p.pile xs k e → ReadsAlike p.pile (edited p.pile k e) xs
