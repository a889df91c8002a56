use Rattle.std.proofs.Common.{◌≡◌, ℕ, zero, suc, ◌-◌, ◌<◌, ◌≤◌, true, false, ◌⊎◌, inl, inr, List, [], ◌∷◌, ◌++◌, length, Some, None, Ok, Err, Result, refl, ◌∙◌, arith}
use Rattle.std.proofs.lemmas.Grind.{common_steps}
use Rattle.std.proofs.lemmas.Bool.Decides.{nat_tests}
use Rattle.std.proofs.lemmas.List.{set_at, drop_more}
use Rattle.extents.specs.declared.table.Table.{Table}
use Rattle.extents.specs.Bounds.{Bounds}
use Rattle.extents.specs.Tables.{held, room, Pushed, overlaps_any}
use Rattle.images.specs.declared.refusal.LoadRefusal.{LoadRefusal}
use Rattle.images.specs.declared.refusal.LoadRefusal.TheVariants.{Overlap, TableFull}
use Rattle.images.specs.Loads.{Load, Loads, Filled}
use Rattle.images.specs.Steps.{NextHeader, no_header, as_next, stopped, addition_refusal, next_extent, AddsNext, load_by, load_from}

-- Loads of any kind of extents.

-- one extent more goes behind those written
filled_pushed : {E : Type 0} (t u v : Table E) (e : E) → Filled (held u) t u → Pushed u v e (Ok tt) → length (held u) < room t → Filled (held u ++ (e ∷ [])) t v
filled_pushed t u v e f p h = let d = drop_more t.entries.now (length (held u)) e h in grind (arith, common_steps, set_at)

module _ {E : Type 0} (bounds : E → Bounds) where
  abbrev pub Free : List E → E → Type 0
  Free before e = overlaps_any bounds before (bounds e) ≡ false

  -- why an extent is not added, and what holds of one that is
  pub not_added : (n : ℕ) (before : List E) (e : E) (refusal : LoadRefusal) → addition_refusal bounds n before e ≡ Some refusal
      → ((refusal ≡ Overlap) × (overlaps_any bounds before (bounds e) ≡ true)) ⊎ ((refusal ≡ TableFull) × Free before e × (n ≤ length before))
  not_added n before e refusal q = grind (arith, nat_tests)

  pub added : (n : ℕ) (before : List E) (e : E) → addition_refusal bounds n before e ≡ None → Free before e × (length before < n)
  added n before e q = grind (arith, nat_tests)

module _ {E : Type 0} (bounds : E → Bounds) (header : ℕ → NextHeader E) where
  -- the load with one extent more, where there is room for so many
  abbrev pub onward : ℕ → (place : ℕ) → List E → E → ℕ → Load E
  onward zero place before e behind = stopped before TableFull place
  onward (suc n) place before e behind = load_from bounds header n behind (before ++ (e ∷ []))

  -- one step of a load
  pub step : (n place : ℕ) (before : List E) → load_from bounds header n place before ≡ load_by bounds (header place) place before (onward n place before)
  step zero place before = refl
  step (suc n) place before = refl

  -- A load over the table `t` that has come to a place: the extents before it are in the table `u`, and the rest of the file decides.
  pub record Underway (start : ℕ) (t u : Table E) (place : ℕ) : Type 0 where
    pub few : length (held u) ≤ room t
    pub table : Filled (held u) t u
    pub same : load_from bounds header (room t) start [] ≡ load_from bounds header (room t - length (held u)) place (held u)

  module _ (start : ℕ) (t u : Table E) (place : ℕ) (s : Underway start t u place) where
    abbrev all : Load E
    all = load_from bounds header (room t) start []

    here : all ≡ load_by bounds (header place) place (held u) (onward (room t - length (held u)) place (held u))
    here = s.same ∙ step _ place (held u)

    as_large : room u ≡ room t
    as_large = grind (arith, common_steps)

    pub loads_to_end : header place ≡ no_header → Loads all t u (Ok (length (held u)))
    loads_to_end q = rw (here, q) (record { answers = refl; table = s.table })

    -- from a header on
    module _ (behind : E → ℕ) (w : Result E LoadRefusal) (q : header place ≡ as_next behind w) (v : Table E) where
      refused : (refusal : LoadRefusal) (x : Result E LoadRefusal) → w ≡ x → Err refusal ≡ next_extent bounds x (room u) (held u) → all ≡ stopped (held u) refusal place
      refused refusal (Err r) e a = let same : r ≡ refusal = cc in rw (here, q, e, same) refl
      refused refusal (Ok r) e a = elim (not_added bounds (room u) (held u) r refusal (grind (arith, nat_tests))) [
        | inl o ↦ rw (here, q, e, o.1, o.0) refl
        | inr f ↦ let none : room t - length (held u) ≡ 0 = omega (arith, f.2, as_large) in rw (here, q, e, f.1, none, f.0) refl
      ]

      pub loads_to_refusal : (refusal : LoadRefusal) → AddsNext bounds w u v (Err refusal)
          → Loads all t v (Err (record { refusal = refusal; place = place; written = length (held v) }))
      loads_to_refusal refusal a = rw (a.table, refused refusal w refl a.answer) (record { answers = refl; table = s.table })

      pub underway_more : (e : E) → AddsNext bounds w u v (Ok e) → Underway start t v (behind e)
      underway_more e a =
          let is : w ≡ Ok e = grind (arith, nat_tests) in
          let free = added bounds (room u) (held u) e (grind (arith, nat_tests)) in
          let n : length (held u) < room t = omega (arith, free.1, as_large) in
          let f = filled_pushed t u v e s.table a.table n in
          let one : room t - length (held u) ≡ suc (room t - suc (length (held u))) = omega arith in
          let more : all ≡ load_from bounds header (room t - suc (length (held u))) (behind e) (held u ++ (e ∷ [])) = rw (here, q, is, free.0, one) refl in
          grind (arith, common_steps)
