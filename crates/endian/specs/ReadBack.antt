use Rattle.std.specs.Prelude.{◌≡◌, ℕ, ◌<◌, ◌^◌, List, ◌++◌, length, Some, All}
use Rattle.endian.specs.Little.{little_endian_bytes, number_in}

-- The bytes of a number are as many as the width, each below 256, and the number is read from them, whatever stands before
-- them and behind.
pub record IsReadBack (width n : ℕ) : Type 0 where
  pub count : length (little_endian_bytes width n) ≡ width
  pub bytes : All (λ b. b < 256) (little_endian_bytes width n)
  pub number : (front rest : List ℕ) → number_in (front ++ (little_endian_bytes width n ++ rest)) (length front) width ≡ Some n

-- of every number that fits the width
abbrev pub EveryNumberIsReadBack : Type 0
EveryNumberIsReadBack = (width n : ℕ) → n < 256 ^ width → IsReadBack width n
