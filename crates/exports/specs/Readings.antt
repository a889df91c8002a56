use Rattle.std.specs.Prelude.{◌≡◌, ℕ, List, [], ◌++◌, length, drop, Some, None, Ok, Err, Option, Result}
use Rattle.images.specs.declared.refusal.LoadRefusal.{LoadRefusal}
use Rattle.spaces.specs.Reads.{Got, got, room}
use Rattle.spaces.specs.Piles.{Pile, shown}
use Rattle.images.specs.Kinds.{lime_bounds, lime_places}
use Rattle.images.specs.Images.{image_bottom}
use Rattle.images.specs.Refusals.{load_refusal_number}
use Rattle.patchfiles.specs.declared.stopped.Stopped.{Stopped}
use Rattle.patchfiles.specs.Refusals.{patch_file_refusal_number}
use Rattle.patchfiles.specs.Files.{asked, answer_by, left_of}
use Rattle.carts.specs.Carts.{cr3_in, layered}
use Rattle.exports.specs.declared.told.Told.{Told}
use Rattle.exports.specs.Tellings.{done, refused}
use Rattle.exports.specs.Loading.{loaded}

-- What is read of a cart under a patch file.

-- what is told, and the bytes that are placed
pub record Reading : Type 0 where
  pub told : Told
  pub bytes : List ℕ

-- nothing is read
abbrev pub nothing : (number place : ℕ) → Reading
nothing number place = record { told = refused number place 0; bytes = [] }

abbrev pub all : Got → Reading
all g = record { told = done 0 (length g.bytes); bytes = g.bytes }

-- what is got, unless the file is refused
abbrev pub under : Result ℕ Stopped → Got → Reading
under (Ok records) g = all g
under (Err stopped) g = nothing (patch_file_refusal_number stopped.refusal) stopped.index

-- of a pile, from an address on, into a buffer
abbrev pub read_patched : Pile → (file : List ℕ) (first : ℕ) (buffer : List ℕ) → Reading
read_patched p file first buffer = under (answer_by (asked file) p) (got (shown (left_of (asked file) p)) (room first buffer))

-- a reading, unless the dump is refused
abbrev pub unless_refused : Option (LoadRefusal × ℕ) → Reading → Reading
unless_refused None r = r
unless_refused (Some (refusal, place)) r = nothing (load_refusal_number refusal) place

-- the layers of a cart on the image of a whole dump
abbrev pub whole_cart : (dump root : List ℕ) → Pile
whole_cart dump root = layered (cr3_in root) (image_bottom lime_bounds lime_places (loaded 64 dump).extents dump)

abbrev pub reading : (dump root file : List ℕ) (first : ℕ) (buffer : List ℕ) → Reading
reading dump root file first buffer = unless_refused (loaded 64 dump).refused (read_patched (whole_cart dump root) file first buffer)

-- what is told, and the buffer before and after: the bytes in front, and the rest as it was
pub record Reads (r : Reading) (told : Told) (before after : List ℕ) : Type 0 where
  pub is : told ≡ r.told
  pub buffer : after ≡ r.bytes ++ drop (length r.bytes) before
