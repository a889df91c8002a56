use Rattle.std.specs.Prelude.{◌≡◌, ℕ, suc, ◌≤◌, Bool, true, cond, ◌&&◌, List, [], ◌∷◌, ◌++◌, length, Some, None, filter, Option, ◌==◌, nat_le, nat_lt}
use Rattle.spaces.specs.declared.patch.Patch.{Patch}

-- an overlay's patches, by address
abbrev pub Patches : Type 0
Patches = List Patch

-- each address is at least n, and above the one before it
abbrev pub ascends : ℕ → Patches → Bool
ascends n [] = true
ascends n (p ∷ ps) = nat_le n p.address && ascends (suc p.address) ps

abbrev pub Ascending : ℕ → Patches → Type 0
Ascending n ps = ascends n ps ≡ true

-- the patch byte of an address
abbrev pub lookup : Patches → ℕ → Option ℕ
lookup [] a = None
lookup (p ∷ ps) a = cond (a == p.address) (Some p.byte) (lookup ps a)

abbrev pub before : ℕ → Patches → Patches
before a ps = filter (λ p. nat_lt p.address a) ps

abbrev pub from : ℕ → Patches → Patches
from a ps = filter (λ p. nat_le a p.address) ps

-- a patch for each byte, from an address on
abbrev pub laid : ℕ → List ℕ → Patches
laid a [] = []
laid a (b ∷ bs) = record { address = a; byte = b } ∷ laid (suc a) bs

-- bytes from first on in the place of all patches before end
abbrev pub replaced : ℕ → ℕ → List ℕ → Patches → Patches
replaced first end bytes ps = before first ps ++ (laid first bytes ++ from end ps)

-- each address once, in order, and at most 256 of them
pub record LawfulPatches (ps : Patches) : Type 0 where
  pub ascending : Ascending 0 ps
  pub few : length ps ≤ 256
