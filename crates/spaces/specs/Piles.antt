use Rattle.std.specs.Prelude.{ℕ, List, [], ◌∷◌, drop, Some, None, Option, Result}
use Rattle.spaces.specs.Maps.{Map, owned}
use Rattle.spaces.specs.Rules.{Rule, LawfulRule, LawfulBase}
use Rattle.spaces.specs.Walks.{Walk, give, ask, rule_of}
use Rattle.spaces.specs.Patches.{Patches, lookup, LawfulPatches}

-- a layer is an overlay with its patches, or any other, known by its rule
pub data Layer : Type 0 where
  plain : Rule → Layer
  overlay : Patches → Layer

-- an overlay's walk: a patch is the answer, any other address answers as below
abbrev pub patched : Option ℕ → ℕ → Walk ℕ
patched (Some b) a = give b
patched None a = ask a give

-- a layer that walks
abbrev pub walking : (ℕ → Walk ℕ) → Layer
walking w = plain (rule_of w)

abbrev pub rule : Layer → Rule
rule (plain r) = r
rule (overlay ps) = rule_of (λ a. patched (lookup ps a) a)

-- what a space means: its layers from the top, and its bottom's map
pub record Pile : Type 0 where
  pub layers : List Layer
  pub base : Map

-- a bottom alone, by the byte or the cause at each address
abbrev pub bottom : (ℕ → Result ℕ ℕ) → Pile
bottom w = record { layers = []; base = λ a. owned a (w a) }

-- one layer more on a pile
abbrev pub on : Layer → Pile → Pile
on l p = record { layers = l ∷ p.layers; base = p.base }

-- the rules applied to the bottom's map, from the bottom up
abbrev pub composed : List Layer → Map → Map
composed [] m = m
composed (l ∷ ls) m = λ a. (rule l (composed ls m) a).0

abbrev pub shown : Pile → Map
shown p = composed p.layers p.base

-- the pile from a depth down
abbrev pub from_depth : ℕ → Pile → Pile
from_depth d p = record { layers = drop d p.layers; base = p.base }

abbrev pub LawfulLayer : Layer → Type 0
LawfulLayer (plain r) = LawfulRule r
LawfulLayer (overlay ps) = LawfulPatches ps

abbrev pub LawfulLayers : List Layer → Type 0
LawfulLayers [] = Unit {0}
LawfulLayers (l ∷ ls) = LawfulLayer l × LawfulLayers ls

pub record Lawful (p : Pile) : Type 0 where
  pub layers : LawfulLayers p.layers
  pub base : LawfulBase p.base

-- a pile that keeps the laws
pub record LawfulPile : Type 0 where
  pub pile : Pile
  pub lawful : Lawful pile
