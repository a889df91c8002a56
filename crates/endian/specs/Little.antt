use Rattle.std.specs.Prelude.{ℕ, zero, suc, ◌+◌, ◌*◌, ◌/◌, ◌%◌, cond, List, [], ◌∷◌, length, take, drop, Some, None, Option, nat_le}
use Rattle.std.specs.Option.{option_map}

-- the number that bytes make, the lowest first
abbrev pub little_endian : List ℕ → ℕ
little_endian [] = 0
little_endian (b ∷ bs) = b + 256 * little_endian bs

-- a number in so many bytes, the lowest first
abbrev pub little_endian_bytes : (width n : ℕ) → List ℕ
little_endian_bytes zero n = []
little_endian_bytes (suc width) n = n % 256 ∷ little_endian_bytes width (n / 256)

-- so many bytes from a place on, or none if the bytes end before that
abbrev pub bytes_in : List ℕ → ℕ → ℕ → Option (List ℕ)
bytes_in bytes place width = cond (nat_le (place + width) (length bytes)) (Some (take width (drop place bytes))) None

-- the number in so many bytes from a place on
abbrev pub number_at : List ℕ → ℕ → ℕ → ℕ
number_at bytes place width = little_endian (take width (drop place bytes))

-- the same, or none if the bytes end before it does
abbrev pub number_in : List ℕ → ℕ → ℕ → Option ℕ
number_in bytes place width = option_map little_endian (bytes_in bytes place width)
