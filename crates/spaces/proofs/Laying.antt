use Rattle.std.proofs.Common.{◌≡◌, ℕ, suc, List, [], ◌∷◌, length, refl, arith}
use Rattle.spaces.specs.Patches.{laid}

-- bytes laid from an address on are so many patches
pub length_laid : (a : ℕ) (bytes : List ℕ) → length (laid a bytes) ≡ length bytes
length_laid a [] = refl
length_laid a (b ∷ bs) = let ih = length_laid (suc a) bs in omega arith
