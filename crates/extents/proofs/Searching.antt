use Rattle.std.proofs.Common.{◌≡◌, ℕ, Bool, List, Some, None, Decides, Option, arith}
use Rattle.std.specs.List.{position_or_len}
use Rattle.std.proofs.lemmas.Grind.{common_steps}
use Rattle.std.proofs.lemmas.Option.{gets}
use Rattle.std.proofs.lemmas.List.Folds.{find_at, Any-from_list_any, list_any_at}
use Rattle.std.proofs.lemmas.List.Sums.{fails_before_first, passes_at_first}
use Rattle.extents.specs.Bounds.{Bounds, contains}
use Rattle.extents.specs.Tables.{first_containing, Finds, overlaps_any, OverlapAny}
use Rattle.extents.proofs.Exact.{overlaps_exact}

module _ {E : Type 0} (bounds : E → Bounds) where
  -- the first that contains an address
  module _ (a : ℕ) (es : List E) where
    abbrev test : E → Bool
    test e = contains (bounds e) a

    pub finds_by : (r : Option E) → r ≡ first_containing bounds es a → Finds bounds es a r
    finds_by None q = grind (arith, gets, find_at, fails_before_first)
    finds_by (Some e) q = record {
      place = position_or_len test es;
      stands = cc (find_at test es);
      contains = grind (arith, gets, find_at, passes_at_first);
      none_before = grind (arith, common_steps, gets, fails_before_first);
    }

  -- one that overlaps a range
  pub exact_by : (x : Bounds) (es : List E) (r : Bool) → r ≡ overlaps_any bounds es x → Decides r (OverlapAny bounds es x)
  exact_by x es r e = grind (arith, gets, overlaps_exact, Any-from_list_any, list_any_at)
