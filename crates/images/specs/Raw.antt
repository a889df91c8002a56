use Rattle.std.specs.Prelude.{◌≡◌, ℕ, zero, suc, ◌<◌, ◌≤◌, List, [], ◌∷◌, length, Some, None, Ok, Err, slice_index}
use Rattle.images.specs.declared.cause.ImageCause.TheVariants.{NoExtent}
use Rattle.images.specs.declared.refusal.LoadRefusal.TheVariants.{TableFull}
use Rattle.images.specs.declared.load.NotLoaded.{NotLoaded}
use Rattle.images.specs.declared.raw.RawExtent.{RawExtent}
use Rattle.images.specs.Kinds.{raw_bounds, raw_places}
use Rattle.images.specs.Images.{image}
use Rattle.images.specs.Loads.{Load}

-- a raw file is one extent from address 0 on, or none if it is empty; room is how many the table can hold
abbrev pub raw : (room : ℕ) → List ℕ → Load RawExtent
raw room [] = record { extents = []; refused = None }
raw zero (b ∷ bs) = record { extents = []; refused = Some (TableFull, 0) }
raw (suc room) (b ∷ bs) = record { extents = record { last = length bs } ∷ []; refused = None }

-- the image of a raw file has the file's bytes at their places, and nothing else
pub record ShowsFile (file : List ℕ) (extents : List RawExtent) : Type 0 where
  pub byte : (a : ℕ) → a < length file → image raw_bounds raw_places extents file a ≡ Ok (slice_index file a)
  pub absent : (a : ℕ) → length file ≤ a → image raw_bounds raw_places extents file a ≡ Err NoExtent

-- a raw file is refused only where it has a byte and the table has no room
pub record NoRoom (file : List ℕ) (room : ℕ) (extents : List RawExtent) (n : NotLoaded) : Type 0 where
  pub some : 0 < length file
  pub none_left : room ≡ 0
  pub empty : extents ≡ []
  pub is : n ≡ record { refusal = TableFull; place = 0; written = 0 }
