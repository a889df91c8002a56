use Rattle.std.proofs.Common.{◌≡◌, ℕ, ◌-◌, ◌<◌, ◌≤◌, min, List, length, inl, inr, refl, sym, ◌∙◌, arith}
use Rattle.std.proofs.lemmas.Bool.Decides.{nat_tests}
use Rattle.extents.specs.declared.table.Table.{Table}
use Rattle.extents.specs.Tables.{held, room}
use Rattle.extents.proofs.Searching.{exact_by}
use Rattle.images.specs.declared.refusal.LoadRefusal.{LoadRefusal}
use Rattle.images.specs.declared.refusal.LoadRefusal.TheVariants.{HeaderCut, BadHeader}
use Rattle.images.specs.declared.range.LimeRange.{LimeRange}
use Rattle.images.specs.Kinds.{lime_bounds}
use Rattle.images.specs.Steps.{no_header, header_of, as_next, load_from}
use Rattle.images.specs.Lime.{header_at, end_of, lime_header}
use Rattle.images.specs.Shows.{Header, Leads, here, range, Why, cut, bad, overlapping, full}
use Rattle.images.proofs.Loading.{step, Underway, not_added}
use Rattle.images.proofs.Walking.{Follow, RefusedAt}
use Rattle.images.proofs.Walking as walks

-- What is read at a place of a LiME file says what stands there.
module _ (file : List ℕ) where
  pub there : (place : ℕ) → place < length file → lime_header file place ≡ as_next end_of (header_at file place)
  there place h = grind (arith, nat_tests)

  pub ends_at : (place : ℕ) → length file ≤ place → lime_header file place ≡ no_header
  ends_at place h = grind (arith, nat_tests)

  -- a place behind the file's end is as good as the end
  pub clamped : (t u : Table LimeRange) (place : ℕ) → Underway lime_bounds (lime_header file) 0 t u place → Underway lime_bounds (lime_header file) 0 t u (min place (length file))
  clamped t u place s =
      let n : ℕ = room t - length (held u) in
      let same : load_from lime_bounds (lime_header file) n (min place (length file)) (held u) ≡ load_from lime_bounds (lime_header file) n place (held u) =
      grind (arith, step lime_bounds (lime_header file), ends_at) in
      record { few = s.few; table = s.table; same = s.same ∙ sym same }

  -- a header that is read
  pub record Read (place : ℕ) (r : LimeRange) (behind : ℕ) : Type 0 where
    pub inside : place < length file
    pub header : Header file place r
    pub next : behind ≡ end_of r

  pub read_at : (place : ℕ) (r : LimeRange) (behind : ℕ) → lime_header file place ≡ header_of r behind → Read place r behind
  read_at place r behind q = grind (arith, nat_tests)

  -- ranges stand one behind the other
  pub leads : {place stop : ℕ} {rs : List LimeRange} → Follow lime_bounds (lime_header file) place rs stop → Leads file place rs stop
  leads walks.here = here
  leads (walks.then {place = place} {behind = behind} {stop = stop} {e = r} {es = rs} q f) = let t = read_at place r behind q in range t.header (rw t.next at (leads f))

  -- a reason to refuse a header, which stands before the file's end
  pub why : (room stop : ℕ) (before : List LimeRange) (refusal : LoadRefusal) → length before ≤ room → RefusedAt lime_bounds (lime_header file) room before stop refusal
      → (stop < length file) × Why file room before stop refusal
  why room stop before HeaderCut few (inl q) = (grind (arith, nat_tests), cut (grind (arith, nat_tests)))
  why room stop before BadHeader few (inl q) = (grind (arith, nat_tests), bad (grind (arith, nat_tests)) (λ r h. grind (arith, nat_tests)))
  why room stop before _ few (inl q) = absurd (grind (arith, nat_tests))
  why room stop before refusal few (inr (r, behind, q, o)) = let t = read_at stop r behind q in (
    t.inside,
    elim (not_added lime_bounds room before r refusal o) [
      | inl p ↦ rw p.0 (overlapping t.header ((exact_by lime_bounds (lime_bounds r) before _ refl).0 p.1))
      | inr p ↦ rw p.0 (full t.header (λ a. grind (arith, exact_by lime_bounds (lime_bounds r) before _ refl)) (omega (arith, p.2)))
    ],
  )
