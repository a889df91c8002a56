use Rattle.std.specs.Prelude.{ℕ, List, [], take, Some, None, Ok, Err, Option, Result}
use Rattle.images.specs.declared.refusal.LoadRefusal.{LoadRefusal}
use Rattle.spaces.specs.Piles.{Pile, overlay, on}
use Rattle.endian.specs.Little.{little_endian}
use Rattle.images.specs.declared.range.LimeRange.{LimeRange}
use Rattle.images.specs.Kinds.{lime_bounds, lime_places}
use Rattle.images.specs.Images.{image_bottom}
use Rattle.images.specs.Loads.{Load}
use Rattle.images.specs.Lime.{lime}
use Rattle.paging.specs.Schemes.{four_level}
use Rattle.paging.specs.Layers.{paging_on}

-- The pile of a stopped cart, by the bytes of its two files: the dump of its memory and its root file.

-- CR3 by a root file: its first eight bytes, those that are missing zeros
abbrev pub cr3_in : (root : List ℕ) → ℕ
cr3_in root = little_endian (take 8 root)

-- the bytes of a dump that count
abbrev pub counted : (dump : List ℕ) → List ℕ
counted dump = take 65536 dump

-- what is loaded of a dump, at most 64 ranges. It unfolds only where a proof asks: it is one step deep for each range.
unfoldable pub loaded : (dump : List ℕ) → Load LimeRange
loaded dump = lime 64 (counted dump)

-- the image of what is loaded
abbrev pub image_of : (dump : List ℕ) → Pile
image_of dump = image_bottom lime_bounds lime_places (loaded dump).extents (counted dump)

-- the layers of a cart, from the top: an overlay, four-level paging, an overlay
abbrev pub layered : (cr3 : ℕ) → Pile → Pile
layered cr3 below = on (overlay []) (paging_on four_level cr3 (on (overlay []) below))

-- the pile of a cart
abbrev pub cart_pile : (dump : List ℕ) (cr3 : ℕ) → Pile
cart_pile dump cr3 = layered cr3 (image_of dump)

-- a pile, unless its load is refused
abbrev pub unless_refused : Option (LoadRefusal × ℕ) → Pile → Result Pile LoadRefusal
unless_refused None p = Ok p
unless_refused (Some (refusal, place)) p = Err refusal

-- the pile of a cart by its two files, or the refusal of its dump
abbrev pub cart_in : (dump root : List ℕ) → Result Pile LoadRefusal
cart_in dump root = unless_refused (loaded dump).refused (cart_pile dump (cr3_in root))
