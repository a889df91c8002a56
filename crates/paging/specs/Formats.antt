use Rattle.std.specs.Prelude.{◌≡◌, ℕ, ◌+◌, ◌*◌, ◌/◌, ◌^◌, ◌<◌, ◌≤◌, Bool, Some, None, Option}
use Rattle.paging.specs.declared.entry.Page.{Page}
use Rattle.paging.specs.declared.entry.Target.{Target}
use Rattle.paging.specs.declared.entry.Target.TheVariants.{Table, Leaf}
use Rattle.paging.specs.declared.entry.Entry.{Entry}

-- A paging scheme: the level of its root table (the last level is 1), the bytes of an entry, the addresses that it has,
-- the root table by CR3, the place of an address in a table of a level, and what an entry of a level means, or nothing
-- if it is not present.
pub record Format : Type 0 where
  pub levels : ℕ
  pub width : ℕ
  pub lawful : ℕ → Bool
  pub root : ℕ → ℕ
  pub index : (level address : ℕ) → ℕ
  pub decoded : (level entry : ℕ) → Option Entry

-- What one walk needs of every scheme.

-- addresses of one page of a level are lawful alike, and have the same index at that level and at each above it
abbrev pub Alike : Format → (level size : ℕ) → Type 0
Alike p l size = (a b : ℕ) → a / size ≡ b / size → (p.lawful a ≡ p.lawful b) × ((k : ℕ) → l ≤ k → p.index k a ≡ p.index k b)

-- a page has a first byte, and lies low enough that none of its addresses passes 2 ^ 64
pub record Placed (pg : Page) : Type 0 where
  pub base : pg.base < 2 ^ 52
  pub some : 0 < pg.size
  pub size : pg.size ≤ 2 ^ 52

-- an entry of a level leads to a table, if a level is left for it, or to a page
abbrev pub SoundTarget : Format → ℕ → Target → Type 0
SoundTarget p l (Table t) = (t < 2 ^ 52) × (1 < l)
SoundTarget p l (Leaf pg) = Placed pg × Alike p l pg.size

abbrev pub SoundEntry : Format → ℕ → Option Entry → Type 0
SoundEntry p l None = Unit {0}
SoundEntry p l (Some e) = SoundTarget p l e.target

pub record Sound (p : Format) : Type 0 where
  pub some : 0 < p.levels
  pub width : p.width ≤ 8
  pub root : (cr3 : ℕ) → p.root cr3 < 2 ^ 52
  pub index : (l a : ℕ) → p.index l a * p.width + p.width ≤ 2 ^ 12
  pub entry : (l e : ℕ) → 0 < l → l ≤ p.levels → SoundEntry p l (p.decoded l e)
