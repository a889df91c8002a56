use Rattle.std.specs.Prelude.{◌≡◌, ℕ, ◌⊎◌, List, Err}
use mathlib.Core.List.{Memᴰ}
use Rattle.spaces.specs.declared.fault.Fault.{Fault}
use Rattle.spaces.specs.Maps.{Answer, Map, climbed}

-- a layer's rule: for a map below and an address, the answer and its trail, the addresses below on which the answer rests
abbrev pub Rule : Type 0
Rule = Map → ℕ → Answer × List ℕ

-- two maps agree at each address of a list
abbrev pub Agree : List ℕ → Map → Map → Type 0
Agree t m n = (x : ℕ) → Memᴰ x t → m x ≡ n x

-- a fault of the space's own
abbrev pub Own : ℕ → Fault → Type 0
Own a f = (f.depth ≡ 0) × (f.address ≡ a)

-- the fault of an address in the trail, one layer further up
abbrev pub Climbs : Map → List ℕ → Fault → Type 0
Climbs m t f = (x : ℕ) × (g : Fault) × Memᴰ x t × (m x ≡ Err g) × (f ≡ climbed g)

-- The two laws of a layer.
-- Footing: maps below that agree at each address of the trail give the same answer and the same trail.
-- Faults: a fault is the layer's own, or that of an address in the trail.
pub record LawfulRule (r : Rule) : Type 0 where
  pub footing : (m n : Map) (a : ℕ) → Agree (r m a).1 m n → r m a ≡ r n a
  pub faults : (m : Map) (a : ℕ) (f : Fault) → (r m a).0 ≡ Err f → Own a f ⊎ Climbs m (r m a).1 f

-- the law of a bottom: its faults are its own
abbrev pub LawfulBase : Map → Type 0
LawfulBase m = (a : ℕ) (f : Fault) → m a ≡ Err f → Own a f
