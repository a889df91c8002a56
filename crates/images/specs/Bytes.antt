use Rattle.std.specs.Prelude.{◌≡◌, ℕ, ◌+◌, ◌-◌, ◌<◌, ◌≤◌, ◌^◌, List, ◌++◌, length, replicate, Some, Ok}
use Rattle.endian.specs.Little.{little_endian_bytes}
use Rattle.images.specs.Lime.{header_in, header_at}

-- The headers and ranges of a LiME file as bytes.

-- a header: magic, version, first and last address, eight zeros
abbrev pub header_bytes : (first last : ℕ) → List ℕ
header_bytes first last =
    little_endian_bytes 4 0x4C694D45
    ++ (little_endian_bytes 4 1 ++ (little_endian_bytes 8 first ++ (little_endian_bytes 8 last ++ little_endian_bytes 8 0)))

-- a range with these bytes, and zeros behind them up to its last address
abbrev pub range_bytes : (first last : ℕ) → List ℕ → List ℕ
range_bytes first last bytes = header_bytes first last ++ (bytes ++ replicate (last - first + 1 - length bytes) 0)

-- The header that stands at a place of a file is the one for these addresses, and the range's bytes are expected behind it.
pub record IsHeaderOf (first last : ℕ) (file : List ℕ) (place : ℕ) : Type 0 where
  pub header : header_in file place ≡ Some (record { magic = 0x4C694D45; version = 1; first = first; last = last })
  pub range : header_at file place ≡ Ok (record { first = first; last = last; place = place + 32 })

-- a header is read back from its bytes, whatever stands before them and behind
abbrev pub EveryHeaderIsReadBack : Type 0
EveryHeaderIsReadBack = (first last : ℕ) → first ≤ last → last < 2 ^ 64
    → (front rest : List ℕ) → IsHeaderOf first last (front ++ (header_bytes first last ++ rest)) (length front)
