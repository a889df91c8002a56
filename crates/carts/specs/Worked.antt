use Rattle.std.specs.Prelude.{◌≡◌, ℕ, List, [], ◌∷◌, ◌++◌, Some, None, Ok}
use Rattle.spaces.specs.Reads.{Got, span, got}
use Rattle.spaces.specs.Piles.{Pile, shown}
use Rattle.spaces.specs.Trails.{trail}
use Rattle.spaces.specs.Edits.{Edit, setting, refusal, edited}
use Rattle.carts.specs.Carts.{cart_pile, cart_in}
use Rattle.carts.specs.Aisle.{aisle}

-- Worked examples: the sample cart, whose root table is at 0x1000.

abbrev pub sample : Pile
sample = cart_pile aisle 0x1000

-- what a read of so many addresses from one on gives
abbrev pub read : Pile → (first count : ℕ) → Got
read p first count = got (shown p) (span first count)

-- bytes, and all of them
abbrev pub whole : (bytes : List ℕ) → Got
whole bytes = record { bytes = bytes; fault = None }

-- bytes, and then a fault
abbrev pub broken : (bytes : List ℕ) (depth address cause : ℕ) → Got
broken bytes depth address cause = record { bytes = bytes; fault = Some (record { depth = depth; address = address; cause = cause }) }

-- the bytes at the end of the page
abbrev pub stored : List ℕ
stored = 0x41 ∷ 0x42 ∷ 0x43 ∷ 0x44 ∷ []

-- the entry of the next page, for the same memory
abbrev pub mending : Edit
mending = setting 0x4008 (0x03 ∷ 0x50 ∷ [])

-- the bytes of the entries above the last, on the way from any address below 2 ^ 21
abbrev pub tables : List ℕ
tables = span 0x1000 8 ++ (span 0x2000 8 ++ span 0x3000 8)

pub record CartExamples : Type 0 where
  pub loads : cart_in aisle (0x00 ∷ 0x10 ∷ []) ≡ Ok sample
  -- over the end of the page: the entry of the next one is not present
  pub next_page : read sample 0xffc 8 ≡ broken stored 1 0x1000 0x11
  -- of the page's memory the dump has the end alone
  pub no_byte : read sample 0 4 ≡ broken [] 3 0x5000 0x01
  -- of the table of level 2 it has the first entry alone
  pub no_entry : read sample 0x200000 1 ≡ broken [] 3 0x3008 0x01
  pub unlawful : read sample 0x800000000000 1 ≡ broken [] 1 0x800000000000 0x04
  -- with the entry patched in, the next page is there
  pub accepted : refusal sample 2 mending ≡ None
  pub mended : read (edited sample 2 mending) 0x1ffc 4 ≡ whole stored
  -- below paging a byte rests on the four entries on its way and on its final address, in the overlay as in the image
  pub rests : trail sample (0xffc ∷ []) 2 ≡ tables ++ (span 0x4000 8 ++ (0x5ffc ∷ []))
  pub rests_below : trail sample (0xffc ∷ []) 3 ≡ trail sample (0xffc ∷ []) 2
  -- an absent entry rests on the entries up to it
  pub absent_rests : trail sample (0x1000 ∷ []) 2 ≡ tables ++ span 0x4008 8
  -- below the patches it does not rest on the bytes that are patched
  pub mended_rests : trail (edited sample 2 mending) (0x1ffc ∷ []) 3 ≡ tables ++ (span 0x400a 6 ++ (0x5ffc ∷ []))
