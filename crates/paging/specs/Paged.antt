use Rattle.std.specs.Prelude.{ℕ, zero, suc, ◌+◌, ◌*◌, ◌%◌, cond, List, [], ◌∷◌, Some, None, Option}
use Rattle.paging.specs.declared.cause.PagingCause.TheVariants.{Unlawful, Absent}
use Rattle.paging.specs.Causes.{cause_number}
use Rattle.spaces.specs.Walks.{Walk, give, fail, ask, after}
use Rattle.endian.specs.Little.{little_endian}
use Rattle.paging.specs.declared.entry.Page.{Page}
use Rattle.paging.specs.declared.entry.Target.{Target}
use Rattle.paging.specs.declared.entry.Target.TheVariants.{Table, Leaf}
use Rattle.paging.specs.declared.entry.Entry.{Entry}
use Rattle.paging.specs.declared.translation.Translation.{Translation}
use Rattle.paging.specs.Formats.{Format}

-- What paging does for one address, in any scheme.

-- so many bytes below from an address on, the lowest first
abbrev pub bytes_at : (n at : ℕ) → Walk (List ℕ)
bytes_at zero at = give []
bytes_at (suc n) at = ask at (λ b. after (bytes_at n (suc at)) (λ bs. give (b ∷ bs)))

-- where the entry of an address stands in a table of a level
abbrev pub entry_at : Format → (level table a : ℕ) → ℕ
entry_at p level table a = table + p.index level a * p.width

-- an entry that is not present ends the walk with its level's cause
abbrev pub present_at : (level : ℕ) → Option Entry → Walk Entry
present_at level None = fail (cause_number (Absent level))
present_at level (Some e) = give e

-- the entry of an address in a table of a level
abbrev pub entry_of : Format → (a level table : ℕ) → Walk Entry
entry_of p a level table = after (bytes_at p.width (entry_at p level table a)) (λ bs. present_at level (p.decoded level (little_endian bs)))

-- it leads to a page, which ends the walk, or to the next table
abbrev pub follow : Target → (ℕ → Walk Page) → Walk Page
follow (Table t) onward = onward t
follow (Leaf pg) onward = give pg

-- From a table of a level down to a page. There is no table of level 0: in a sound scheme no entry of level 1 leads to one.
abbrev pub descend : Format → (a level table : ℕ) → Walk Page
descend p a zero table = fail (cause_number (Absent zero))
descend p a (suc l) table = after (entry_of p a (suc l) table) (λ e. follow e.target (descend p a l))

-- the page of an address, from the root table down
abbrev pub page_of : Format → (cr3 a : ℕ) → Walk Page
page_of p cr3 a = cond (p.lawful a) (descend p a p.levels (p.root cr3)) (fail (cause_number Unlawful))

-- the final address: the page's base plus the address bits below it
abbrev pub final : Page → ℕ → Translation
final pg a = record { address = pg.base + a % pg.size; size = pg.size }

abbrev pub translation : Format → (cr3 a : ℕ) → Walk Translation
translation p cr3 a = after (page_of p cr3 a) (λ pg. give (final pg a))

-- the byte of an address is the one below at the final address
abbrev pub paged : Format → (cr3 a : ℕ) → Walk ℕ
paged p cr3 a = after (translation p cr3 a) (λ t. ask t.address give)
