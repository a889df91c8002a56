use Rattle.std.specs.Prelude.{◌≡◌, ℕ, ◌+◌, ◌%◌, Bool, if◌then◌else◌, List, ◌++◌, length, drop, codes, Some, None, Option, nat_le}
use Rattle.std.specs.List.{sum}
use Rattle.packets.specs.Digits.{digits}

-- the sum that a frame carries
abbrev pub checksum : List ℕ → ℕ
checksum payload = sum payload % 256

-- a payload's frame
abbrev pub framed : List ℕ → List ℕ
framed payload = codes "$" ++ (payload ++ (codes "#" ++ digits 2 (checksum payload)))

-- whether a payload has a frame: it has at most 4,096 bytes
abbrev pub has_frame : List ℕ → Bool
has_frame payload = nat_le (length payload) 4096

-- what writing a payload's frame into a reply buffer of 4,100 bytes answers and leaves: its length and the frame in front of
-- the buffer, whose rest is as it was; or none, and the buffer as it was
pub record Frames (payload before after : List ℕ) (r : Option ℕ) : Type 0 where
  pub room : length after ≡ 4100
  pub how_many : r ≡ (if has_frame payload then Some (length payload + 4) else None)
  pub buffer : after ≡ (if has_frame payload then framed payload ++ drop (length payload + 4) before else before)
