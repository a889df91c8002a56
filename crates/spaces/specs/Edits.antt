use Rattle.std.specs.Prelude.{◌≡◌, ℕ, zero, suc, ◌+◌, ◌^◌, cond, List, [], ◌∷◌, length, Some, None, Ok, Err, Option, Result, nat_lt}
use Rattle.spaces.specs.declared.refusal.EditRefusal.{EditRefusal}
use Rattle.spaces.specs.declared.refusal.EditRefusal.TheVariants.{PastTheEnd, NoOverlay, TooManyPatches}
use Rattle.spaces.specs.Patches.{Patches, lookup, replaced}
use Rattle.spaces.specs.Rules.{Rule}
use Rattle.spaces.specs.Piles.{Layer, plain, overlay, Pile, on}

-- a change of one overlay: patch consecutive addresses, or take back the patches among some
pub data Edit : Type 0 where
  setting : (first : ℕ) (bytes : List ℕ) → Edit
  clearing : (first count : ℕ) → Edit

abbrev pub first_of : Edit → ℕ
first_of (setting first bytes) = first
first_of (clearing first count) = first

abbrev pub count_of : Edit → ℕ
count_of (setting first bytes) = length bytes
count_of (clearing first count) = count

-- the bytes that it leaves as patches
abbrev pub bytes_of : Edit → List ℕ
bytes_of (setting first bytes) = bytes
bytes_of (clearing first count) = []

abbrev pub edit : Edit → Patches → Patches
edit e ps = replaced (first_of e) (first_of e + count_of e) (bytes_of e) ps

-- the patches of what stands at a depth: none unless it is an overlay
abbrev pub patches_of : Layer → Option Patches
patches_of (plain r) = None
patches_of (overlay ps) = Some ps

abbrev pub patches_at : List Layer → ℕ → Option Patches
patches_at [] k = None
patches_at (l ∷ ls) zero = patches_of l
patches_at (l ∷ ls) (suc k) = patches_at ls k

-- the patch at a depth and an address
abbrev pub patch_in : Option Patches → ℕ → Option ℕ
patch_in None a = None
patch_in (Some ps) a = lookup ps a

abbrev pub patch_at : Pile → ℕ → ℕ → Option ℕ
patch_at p k a = patch_in (patches_at p.layers k) a

-- the refusal of an edit at what stands there: the first that applies of an end above 2 ^ 64 - 1, no overlay, and more than 256 patches afterwards
abbrev pub crowded : Patches → Option EditRefusal
crowded ps = cond (nat_lt 256 (length ps)) (Some TooManyPatches) None

abbrev pub crowding : Option Patches → Edit → Option EditRefusal
crowding None e = Some NoOverlay
crowding (Some ps) e = crowded (edit e ps)

abbrev pub ending : ℕ → Option EditRefusal → Option EditRefusal
ending end o = cond (nat_lt (2 ^ 64) end) (Some PastTheEnd) o

abbrev pub judged : Option Patches → Edit → Option EditRefusal
judged o e = ending (first_of e + count_of e) (crowding o e)

abbrev pub refusal : Pile → ℕ → Edit → Option EditRefusal
refusal p k e = judged (patches_at p.layers k) e

-- the layers after an accepted edit
abbrev pub edit_layer : Edit → Layer → Layer
edit_layer e (plain r) = plain r
edit_layer e (overlay ps) = overlay (edit e ps)

abbrev pub edit_at : List Layer → ℕ → Edit → List Layer
edit_at [] k e = []
edit_at (l ∷ ls) zero e = edit_layer e l ∷ ls
edit_at (l ∷ ls) (suc k) e = l ∷ edit_at ls k e

-- a refused edit changes nothing
abbrev pub unless : {X : Type 0} → Option EditRefusal → X → X → X
unless None old new = new
unless (Some n) old new = old

-- the pile after an edit
abbrev pub edited : Pile → ℕ → Edit → Pile
edited p k e = record { layers = unless (refusal p k e) p.layers (edit_at p.layers k e); base = p.base }

-- done, or refused
abbrev pub Outcome : Type 0
Outcome = Result (Unit {0}) EditRefusal

abbrev pub outcome : Option EditRefusal → Outcome
outcome None = Ok tt
outcome (Some n) = Err n

-- what a set or a clear of an overlay's patches answers and leaves
pub record EditsPatches (old new : Patches) (e : Edit) (r : Outcome) : Type 0 where
  pub answer : r ≡ outcome (judged (Some old) e)
  pub patches : new ≡ unless (judged (Some old) e) old (edit e old)

-- what a set or a clear at a depth of a pile answers and leaves
pub record Edits (old new : Pile) (depth : ℕ) (e : Edit) (r : Outcome) : Type 0 where
  pub answer : r ≡ outcome (refusal old depth e)
  pub pile : new ≡ edited old depth e

-- the same of whatever layer over a pile, overlays apart
abbrev pub EditsUnder : Pile → Pile → ℕ → Edit → Outcome → Type 0
EditsUnder old new depth e r = (l : Rule) → Edits (on (plain l) old) (on (plain l) new) depth e r
