use Rattle.std.specs.Prelude.{◌≡◌, ℕ, ◌≤◌, List, [], ◌∷◌, length}
use Rattle.spaces.specs.Maps.{Map}
use Rattle.spaces.specs.Piles.{Pile}
use Rattle.spaces.specs.Trails.{trail}
use Rattle.paging.specs.declared.entry.Page.{Page}
use Rattle.paging.specs.Bits.{field}
use Rattle.paging.specs.Formats.{Format}
use Rattle.paging.specs.Schemes.{two_level, pae, four_level}
use Rattle.paging.specs.Paged.{entry_at, final}
use Rattle.paging.specs.Translations.{Holds, Leads, Translates}
use Rattle.paging.specs.Layers.{paging_on}

-- an address goes to another
abbrev pub Goes : Format → Map → (cr3 a x : ℕ) → Type 0
Goes p m cr3 a x = (reads : List ℕ) × (pg : Page) × Translates p m cr3 a reads pg × ((final pg a).address ≡ x)

-- worked examples, one for each scheme
pub record Worked : Type 0 where
  pub two : (m : Map) → Holds m 4 0x1004 0x00400083 → Goes two_level m 0x1000 0x400010 0x400010
  pub pae : entry_at pae pae.levels (pae.root 0x1020) 0xc0000000 ≡ 0x1038
  pub four : (m : Map) (table : ℕ) → Holds m 8 (entry_at four_level 2 table 0x1234) 0x6000e3
      → (reads : List ℕ) × (pg : Page) × Leads four_level m 0x1234 2 table reads pg × ((final pg 0x1234).address ≡ 0x601234)

-- the bits of an address that are its index, for each level of each scheme
pub record IndexBits (a : ℕ) : Type 0 where
  pub two_2 : two_level.index 2 a ≡ field 31 22 a
  pub two_1 : two_level.index 1 a ≡ field 21 12 a
  pub pae_3 : pae.index 3 a ≡ field 31 30 a
  pub pae_2 : pae.index 2 a ≡ field 29 21 a
  pub pae_1 : pae.index 1 a ≡ field 20 12 a
  pub four_4 : four_level.index 4 a ≡ field 47 39 a
  pub four_3 : four_level.index 3 a ≡ field 38 30 a
  pub four_2 : four_level.index 2 a ≡ field 29 21 a
  pub four_1 : four_level.index 1 a ≡ field 20 12 a

abbrev pub EveryIndexHasItsBits : Type 0
EveryIndexHasItsBits = (a : ℕ) → IndexBits a

-- how many addresses right below one address can rest on
pub record ShortTrails (cr3 : ℕ) (below : Pile) (a : ℕ) : Type 0 where
  pub two : length (trail (paging_on two_level cr3 below) (a ∷ []) 1) ≤ 9
  pub pae : length (trail (paging_on pae cr3 below) (a ∷ []) 1) ≤ 25
  pub four : length (trail (paging_on four_level cr3 below) (a ∷ []) 1) ≤ 33

abbrev pub EveryTrailIsShort : Type 0
EveryTrailIsShort = (cr3 : ℕ) (below : Pile) (a : ℕ) → ShortTrails cr3 below a
