use Rattle.std.proofs.Common.{◌≡◌, ℕ, false, ◌⊎◌, List, [], ◌∷◌, ◌++◌, length, Some, None, Option, refl, arith}
use Rattle.std.specs.List.{slice_get}
use Rattle.std.proofs.lemmas.Grind.{common_steps}
use Rattle.std.proofs.lemmas.Option.{gets, slice_get_within}
use Rattle.extents.specs.Bounds.{Bounds, Contains}
use Rattle.extents.specs.Tables.{first_containing, overlaps_any, NoneContains, Finds}
use Rattle.extents.proofs.Searching.{finds_by, exact_by}
use Rattle.images.specs.Images.{Apart}

stands_pushed : {E : Type 0} (es : List E) (r : E) (k : ℕ) (e : E) → slice_get (es ++ (r ∷ [])) k ≡ Some e → (slice_get es k ≡ Some e) ⊎ ((length es ≡ k) × (r ≡ e))
stands_pushed es r k e h = grind (arith, common_steps, gets)

-- extents of which no two overlap

module _ {E : Type 0} (bounds : E → Bounds) where
  pub apart_push : (es : List E) (r : E) → Apart bounds es → overlaps_any bounds es (bounds r) ≡ false → Apart bounds (es ++ (r ∷ []))
  apart_push es r s free = let d = exact_by bounds (bounds r) es _ refl in grind (arith, slice_get_within, stands_pushed)

  -- the one that contains an address is the first
  pub first_is : (es : List E) (k a : ℕ) (e : E) → Apart bounds es → slice_get es k ≡ Some e → Contains (bounds e) a → first_containing bounds es a ≡ Some e
  first_is es k a e s at c = step (first_containing bounds es a) (finds_by bounds a es _ refl)
    where
      step : (w : Option E) → Finds bounds es a w → w ≡ Some e
      step None n = grind arith
      step (Some f) t = grind (arith, common_steps, gets, s t.place k f e, t.none_before k e)

  pub first_none : (es : List E) (a : ℕ) → NoneContains bounds es a → first_containing bounds es a ≡ None
  first_none es a n = grind (arith, finds_by bounds a es _ refl)
