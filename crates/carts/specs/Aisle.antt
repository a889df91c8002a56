use Rattle.std.specs.Prelude.{ℕ, List, [], ◌∷◌, ◌++◌}
use Rattle.images.specs.Bytes.{range_bytes}

-- The dump of the sample cart, as a LiME file: a page table of each level, and the four bytes to which they lead.
abbrev pub aisle : List ℕ
aisle =
    range_bytes 0x1000 0x1007 (0x03 ∷ 0x20 ∷ [])
    ++ (range_bytes 0x2000 0x2007 (0x03 ∷ 0x30 ∷ [])
    ++ (range_bytes 0x3000 0x3007 (0x03 ∷ 0x40 ∷ [])
    ++ (range_bytes 0x4000 0x400f (0x03 ∷ 0x50 ∷ [])
    ++ range_bytes 0x5ffc 0x5fff (0x41 ∷ 0x42 ∷ 0x43 ∷ 0x44 ∷ []))))
