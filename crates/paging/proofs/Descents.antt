use Rattle.std.proofs.Common.{◌≡◌, ℕ, zero, suc, ◌-◌, ◌^◌, ◌<◌, ◌≤◌, Ok, arith}
use Rattle.spaces.specs.Maps.{Map}
use Rattle.spaces.specs.Walks.{found}
use Rattle.spaces.proofs.Sequences.{onward, found_after}
use Rattle.paging.specs.declared.entry.Target.TheVariants.{Table}
use Rattle.paging.specs.declared.entry.Entry.{Entry}
use Rattle.paging.specs.Formats.{Format, Sound}
use Rattle.paging.specs.Paged.{follow, entry_of, descend, page_of}
use Rattle.paging.specs.Entries.{entry_found}
use Rattle.paging.proofs.Entries.{entry_walked, entry_means}

-- one level of the walk
pub descend_found : (p : Format) (m : Map) (a l table : ℕ) → 0 < l → found a (descend p a l table) m ≡ onward (entry_found p m a l table) (λ e. found a (follow e.target (descend p a (l - 1))) m)
descend_found p m a zero table h = absurd (omega arith)
descend_found p m a (suc l) table h = grind (arith, found_after a (entry_of p a (suc l) table) (λ e. follow e.target (descend p a l)) m, entry_walked p m a (suc l) table)

-- the walk has come to a table of a level
pub record Come (p : Format) (m : Map) (cr3 a l table : ℕ) : Type 0 where
  pub low : 0 < l
  pub high : l ≤ p.levels
  pub near : table < 2 ^ 52
  pub same : found a (page_of p cr3 a) m ≡ found a (descend p a l table) m

-- and goes on to the next
pub next : (p : Format) (m : Map) (cr3 a l table : ℕ) → Come p m cr3 a l table → (e : Entry) → Ok e ≡ entry_found p m a l table → Sound p → (t : ℕ) → e.target ≡ Table t → Come p m cr3 a (l - 1) t
next p m cr3 a l table come e h sound t s = let leads = entry_means p sound m a l table come.low come.high e h in grind (arith, descend_found p m a l table)
