use Prim.Native.Char.{code}
use Rattle.std.specs.Prelude.{◌≡◌, ℕ, zero, suc, ◌+◌, ◌-◌, ◌*◌, ◌/◌, ◌%◌, min, ◌&&◌, Bool, if◌then◌else◌, List, [], ◌∷◌, ◌++◌, length, take, drop, Some, None, Option, nat_le, nat_lt}
use Rattle.std.specs.List.{flat_map}
use Rattle.std.specs.Option.{option_and_then}

-- Hexadecimal digits, each by the code of its character.

-- the value of a digit: 0 to 9, a to f or A to F
abbrev pub among : ℕ → ℕ → ℕ → Bool
among first last c = nat_le first c && nat_le c last

abbrev pub digit : ℕ → Option ℕ
digit c =
    if among (code "0") (code "9") c then Some (c - code "0")
    else if among (code "a") (code "f") c then Some (10 + (c - code "a"))
    else if among (code "A") (code "F") c then Some (10 + (c - code "A"))
    else None

-- the digit of a value below 16, in lower case
abbrev pub lower : ℕ → ℕ
lower n = if nat_lt n 10 then code "0" + n else code "a" + (n - 10)

-- the number that digits spell, the highest first, where those before them spell n; none if one is no digit
abbrev pub spelled : ℕ → List ℕ → Option ℕ
spelled n [] = Some n
spelled n (c ∷ cs) = option_and_then (λ d. spelled (16 * n + d) cs) (digit c)

-- the number in 1 to 16 digits
abbrev pub number : List ℕ → Option ℕ
number cs = if among 1 16 (length cs) then spelled 0 cs else None

-- the lowest digits of a number, so many
abbrev pub digits : ℕ → ℕ → List ℕ
digits zero n = []
digits (suc width) n = digits width (n / 16) ++ (lower (n % 16) ∷ [])

-- bytes, each as two digits
abbrev pub spell : List ℕ → List ℕ
spell bytes = flat_map (digits 2) bytes

-- the bytes in pairs of digits, up to the first pair that is none
abbrev pub in_front : Option ℕ → List ℕ → List ℕ
in_front None bytes = []
in_front (Some b) bytes = b ∷ bytes

abbrev pub paired : List ℕ → List ℕ
paired [] = []
paired (c ∷ []) = []
paired (high ∷ low ∷ rest) = in_front (spelled 0 (high ∷ low ∷ [])) (paired rest)

-- as many of some bytes as a buffer has room for, two digits each, stand in its front, and the rest of it is as it was
pub record Spells (bytes before after : List ℕ) (count : ℕ) : Type 0 where
  pub how_many : count ≡ 2 * min (length bytes) (length before / 2)
  pub buffer : after ≡ spell (take (length before / 2) bytes) ++ drop count before

-- as many of some bytes as a buffer has room for stand in its front, and the rest of it is as it was
pub record Places (bytes before after : List ℕ) (count : ℕ) : Type 0 where
  pub how_many : count ≡ min (length bytes) (length before)
  pub buffer : after ≡ take count bytes ++ drop count before
