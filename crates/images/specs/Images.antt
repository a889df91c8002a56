use Rattle.std.specs.Prelude.{◌≡◌, ℕ, ◌<◌, cond, List, length, Some, None, Ok, Err, Option, Result, nat_lt, slice_index}
use Rattle.images.specs.declared.cause.ImageCause.{ImageCause}
use Rattle.images.specs.declared.cause.ImageCause.TheVariants.{NoExtent, NotStored}
use Rattle.std.specs.List.{slice_get}
use Rattle.images.specs.Causes.{numbered}
use Rattle.spaces.specs.Piles.{Pile, bottom, Lawful}
use Rattle.spaces.proofs.Lawful.{bottom_lawful}
use Rattle.extents.specs.Bounds.{Bounds, Overlap}
use Rattle.extents.specs.Tables.{first_containing}

-- the byte at a place of a file, or the cause
abbrev pub byte_at : List ℕ → Option ℕ → Result ℕ ImageCause
byte_at file None = Err NotStored
byte_at file (Some place) = cond (nat_lt place (length file)) (Ok (slice_index file place)) (Err NotStored)

-- an image answers by the first extent of its table that contains the address
module _ {E : Type 0} (bounds : E → Bounds) (places : E → ℕ → Option ℕ) where
  abbrev pub answered : Option E → List ℕ → ℕ → Result ℕ ImageCause
  answered None file a = Err NoExtent
  answered (Some e) file a = byte_at file (places e a)

  abbrev pub image : List E → List ℕ → ℕ → Result ℕ ImageCause
  image extents file a = answered (first_containing bounds extents a) file a

  -- the same with its causes as numbers, as a bottom has them
  abbrev pub image_bottom : List E → List ℕ → Pile
  image_bottom extents file = bottom (λ a. numbered (image extents file a))

  -- its faults are its own
  pub image_lawful : (extents : List E) (file : List ℕ) → Lawful (image_bottom extents file)
  image_lawful extents file = bottom_lawful (λ a. numbered (image extents file a))

-- no two extents share an address
abbrev pub Apart : {E : Type 0} → (E → Bounds) → List E → Type 0
Apart {E} bounds es = (i j : ℕ) (x y : E) → i < j → slice_get es i ≡ Some x → slice_get es j ≡ Some y → Overlap (bounds x) (bounds y) → ⊥
