use Rattle.std.proofs.Common.{ℕ, zero, suc, ◌*◌, ◌≤◌, List, [], ◌∷◌, length, suc-mul, arith, length-append}
use Rattle.spaces.specs.declared.fault.Fault.{Fault}
use Rattle.spaces.specs.Maps.{Map}
use Rattle.spaces.specs.Reads.{span, through}
use Rattle.paging.specs.declared.entry.Page.{Page}
use Rattle.paging.specs.Formats.{Format}
use Rattle.paging.specs.Translations.{Leads, Stops}
use Rattle.paging.specs.Translations as rel

-- How much a chain reads: at most one entry for each level.

span_long : (x n : ℕ) → length (span x n) ≤ n
span_long x zero = omega arith
span_long x (suc n) = omega (arith, span_long (suc x) n)

through_long : (m : Map) (xs : List ℕ) → length (through m xs) ≤ length xs
through_long m [] = omega arith
through_long m (x ∷ xs) = grind (arith, through_long m xs)

module _ (p : Format) (m : Map) (a : ℕ) where
  pub leads_long : {l table : ℕ} {reads : List ℕ} {pg : Page} → Leads p m a l table reads pg → length reads ≤ l * p.width
  leads_long (rel.Leads.page h s) = omega (arith, suc-mul, span_long)
  leads_long (rel.Leads.next h s c) = omega (arith, suc-mul, span_long, length-append {A = ℕ}, leads_long c)

  pub stops_long : {l table : ℕ} {reads : List ℕ} {f : Fault} → Stops p m a l table reads f → length reads ≤ l * p.width
  stops_long (rel.Stops.missing h) = omega (arith, suc-mul, span_long, through_long)
  stops_long (rel.Stops.absent h) = omega (arith, suc-mul, span_long)
  stops_long (rel.Stops.next h s c) = omega (arith, suc-mul, span_long, length-append {A = ℕ}, stops_long c)
