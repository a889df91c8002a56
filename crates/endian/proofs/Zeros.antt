use Rattle.std.proofs.Common.{◌≡◌, ℕ, zero, suc, List, [], ◌∷◌, ◌++◌, length, replicate, refl, arith}
use Rattle.std.proofs.lemmas.Grind.{common_steps}
use Rattle.std.specs.Int.{w64, from_le_bytes}
use Rattle.endian.specs.Little.{little_endian}

-- zeros behind its bytes leave a number as it is
pub little_endian-zeros : (bytes : List ℕ) (n : ℕ) → little_endian (bytes ++ replicate n 0) ≡ little_endian bytes
little_endian-zeros [] zero = refl
little_endian-zeros [] (suc n) = omega (arith, little_endian-zeros [] n)
little_endian-zeros (b ∷ bs) n = omega (arith, little_endian-zeros bs n)

-- eight bytes make the number that the library reads from them
pub from_le_bytes-eight : (bytes : List ℕ) → length bytes ≡ 8 → from_le_bytes w64 bytes ≡ little_endian bytes
from_le_bytes-eight bytes h = grind (arith, common_steps)
