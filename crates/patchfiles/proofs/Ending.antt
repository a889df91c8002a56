use Rattle.std.proofs.Common.{◌≡◌, ◌≢◌, ℕ, zero, suc, ◌*◌, ◌/◌, ◌%◌, ◌<◌, ◌≤◌, ◌⊎◌, inl, inr, List, length, Some, None, Ok, Err, Option, Result, refl, ap, sym, arith, add-one, IsSome}
use Rattle.std.specs.Prelude.{is_some, is_none, position}
use Rattle.std.specs.Simd.{first_chunks}
use borrow.Author.Count.{below_more}
use Rattle.std.proofs.lemmas.Bool.{cases_eq}
use Rattle.spaces.specs.declared.refusal.EditRefusal.{EditRefusal}
use Rattle.spaces.specs.Piles.{Pile}
use Rattle.spaces.specs.Edits.{unless, edit_at}
use Rattle.patchfiles.specs.declared.refusal.PatchFileRefusal.TheVariants as why
use Rattle.patchfiles.specs.declared.stopped.Stopped.{Stopped}
use Rattle.patchfiles.specs.Runs.{Mark, refused, marked, edit_answer, Makes}
use Rattle.patchfiles.specs.Records.{mark_of}
use Rattle.patchfiles.specs.Files.{marks_of, Applies}
use Rattle.patchfiles.specs.Ends.{record_at, WellFormed, Leads, here, next, Ends, bad_length, bad_record, stops, goes_through, EveryPatchFileEndsInOneOfFourWays}
use Rattle.patchfiles.proofs.Running.{Underway, runs_to_end, underway_more, runs_to_refusal}
use Rattle.patchfiles.proofs.Forms.{length_records, record_is, Before, formed, mark_there, marks_there}
use Rattle.patchfiles.proofs.Answering.{bad_length_applies, fault_applies, run_applies}

-- making a mark: it is accepted, or refused
accepts : (o : Option Mark) (q : Pile) (m : Mark) → o ≡ Some m → refused q m ≡ None → Makes o q (marked q m) (Ok tt)
accepts o q m e a = rw e (sym (ap edit_answer a), refl)

refuses : (o : Option Mark) (q : Pile) (m : Mark) (refusal : EditRefusal) → o ≡ Some m → refused q m ≡ Some refusal → Makes o q q (Err (why.Edit refusal))
refuses o q m refusal e a = rw e (
  sym (ap edit_answer a),
  sym (ap (λ (w : Option EditRefusal). record { layers = unless w q.layers (edit_at q.layers m.depth m.edit); base = q.base }) a),
)

module _ (file : List ℕ) (p : Pile) where
  -- one of the ways is taken
  abbrev Ended : Type 0
  Ended = (q : Pile) × (r : Result ℕ Stopped) × Ends file p r q

  -- a file of n records
  module _ (n : ℕ) (whole : length file ≡ 16 * n) where
    abbrev raws : List (List ℕ)
    raws = first_chunks 16 n file

    inside : (k : ℕ) → k < n → k < length raws
    inside k h = rw (length_records n file) h

    well_formed : (k : ℕ) → k ≤ n → Before raws k → WellFormed file k
    well_formed k h f j l = rw (record_is n j file (omega arith)) at (f j l)

    before : (k : ℕ) → k ≤ n → WellFormed file k → Before raws k
    before k h f j l = rw (record_is n j file (omega arith)) (f j l)

    fault_applies_at : (k : ℕ) → k < n → WellFormed file k → mark_of (record_at file k) ≡ None → Applies p p file (Err (record { refusal = why.BadRecord; index = k }))
    fault_applies_at k h f e = fault_applies file p n raws whole refl k (record { inside = inside k h; malformed = rw (record_is n k file h) e; before = before k (omega arith) f })

    -- well-formed records run
    module _ (well : WellFormed file n) where
      read : (marks : List Mark) × (marks_of 0 raws ≡ Ok marks)
      read = marks_there raws 0 (rw (length_records n file) (before n (omega arith) well))

      underway : (k : ℕ) (q : Pile) → Leads file p k q → k ≤ n → Underway raws read.0 p q k
      underway k q here h = record { rest = read.0; ahead = read.1; answer = refl; pile = refl }
      underway k q (next {n = j} {q = w} {m = m} l b a) h =
          rw add-one at (underway_more raws read.0 p w (marked w m) j (underway j w l (omega arith)) (inside j (omega arith)) (accepts _ w m (rw (record_is n j file (omega arith)) b) a))

      stop_applies : (k : ℕ) (q : Pile) (m : Mark) (refusal : EditRefusal) → k < n → Leads file p k q → mark_of (record_at file k) ≡ Some m → refused q m ≡ Some refusal
          → Applies p q file (Err (record { refusal = why.Edit refusal; index = k }))
      stop_applies k q m refusal h l b a = run_applies file p n raws whole refl q _ read.0 read.1
          (runs_to_refusal raws read.0 p q q k (underway k q l (omega arith)) (inside k h) (why.Edit refusal) (refuses _ q m refusal (rw (record_is n k file h) b) a))

      end_applies : (q : Pile) → Leads file p n q → Applies p q file (Ok n)
      end_applies q l = run_applies file p n raws whole refl q _ read.0 read.1
          (rw (length_records n file) at (runs_to_end raws read.0 p q q n (underway n q l (omega arith)) (omega (arith, length_records n file)) (omega (arith, length_records n file))))

      -- the first k records take effect, or one of them is refused
      leads : (k : ℕ) → k ≤ n → (Ended ⊎ ((q : Pile) × Leads file p k q))
      leads zero h = inr (p, here)
      leads (suc k) h = on (leads k (omega arith))
        where
          by : (q : Pile) (m : Mark) → Leads file p k q → mark_of (record_at file k) ≡ Some m → (o : Option EditRefusal) → refused q m ≡ o → (Ended ⊎ ((w : Pile) × Leads file p (suc k) w))
          by q m l e None a = inr (marked q m, next l e a)
          by q m l e (Some refusal) a = inl (q, _, stops whole well h l e a)

          on : (Ended ⊎ ((q : Pile) × Leads file p k q)) → (Ended ⊎ ((w : Pile) × Leads file p (suc k) w))
          on (inl e) = inl e
          on (inr (q, l)) = let m = mark_there (mark_of (record_at file k)) (well k h) in by q m.0 l m.1 (refused q m.0) refl

      end : (Ended ⊎ ((q : Pile) × Leads file p n q)) → Ended
      end (inl e) = e
      end (inr (q, l)) = (q, Ok n, goes_through whole l)

    leads_formed : (k : ℕ) (q : Pile) → Leads file p k q → WellFormed file k
    leads_formed k q here j h = absurd (omega arith)
    leads_formed k q (next {n = i} {q = w} {m = m} l b a) j h =
        below_more (λ (x : ℕ). IsSome (mark_of (record_at file x))) i (leads_formed i w l) (ap is_some b) j (omega arith)

    ends_by : (first : Option ℕ) → position (λ raw. is_none (mark_of raw)) raws ≡ first → Ended
    ends_by None e = let well = well_formed n (omega arith) (rw (length_records n file) at (formed raws None e)) in end well (leads well n (omega arith))
    ends_by (Some k) e =
        let f = formed raws (Some k) e in
        let h : k < n = rw (length_records n file) at f.inside in
        (p, _, bad_record whole h (well_formed k (omega arith) f.before) (rw (record_is n k file h) at f.malformed))

  pub each_way_applies : (q : Pile) (r : Result ℕ Stopped) → Ends file p r q → Applies p q file r
  each_way_applies q r (bad_length d) = bad_length_applies file p d
  each_way_applies q r (bad_record {n = n} {k = k} whole h f e) = fault_applies_at n whole k h f e
  each_way_applies q r (stops {n = n} {k = k} {m = m} {refusal = refusal} whole f h l b a) = stop_applies n whole f k q m refusal h l b a
  each_way_applies q r (goes_through {n = n} whole l) = end_applies n whole (leads_formed n whole n q l) q l

  ends : ((length file % 16 ≡ 0) ⊎ (length file % 16 ≢ 0)) → Ended
  ends (inl z) = ends_by (length file / 16) (omega arith) _ refl
  ends (inr d) = (p, _, bad_length d)

  -- what is answered and left is one thing, so it is that of the way taken
  pub ends_in_a_way : (q : Pile) (r : Result ℕ Stopped) → Applies p q file r → Ends file p r q
  ends_in_a_way q r a =
      let e = ends (cases_eq (length file % 16) 0) in
      let b = each_way_applies e.0 e.1 e.2 in
      rw (a.answer, a.pile) (rw (b.answer, b.pile) at e.2)

pub every_file : EveryPatchFileEndsInOneOfFourWays
every_file file old new r = (ends_in_a_way file old new r, each_way_applies file old new r)
