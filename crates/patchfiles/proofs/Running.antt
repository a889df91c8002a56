use Rattle.std.proofs.Common.{◌≡◌, ℕ, suc, ◌+◌, ◌<◌, ◌≤◌, List, [], ◌∷◌, length, drop, get_or, Some, None, Ok, Err, Option, Result, refl, sym, subst, ◌∙◌, arith, add-one, ap}
use Rattle.std.proofs.Math.ListN.{drop_of_length-le}
use Rattle.std.proofs.Math.Seq.{drop-cons}
use Rattle.std.proofs.lemmas.Grind.{common_steps}
use Rattle.patchfiles.specs.declared.refusal.PatchFileRefusal.{PatchFileRefusal}
use Rattle.spaces.specs.Piles.{Pile}
use Rattle.patchfiles.specs.declared.stopped.Stopped.{Stopped}
use Rattle.patchfiles.specs.Runs.{Mark, Makes, left_by, told_by, Runs}
use Rattle.patchfiles.specs.Records.{mark_of}
use Rattle.patchfiles.specs.Files.{in_front, marks_of}

-- One mark of a run: refused, it ends the run; accepted, the run goes on.
module _ (m : Mark) (ms : List Mark) (n : ℕ) (p q : Pile) where
  pub at_refused : (refusal : PatchFileRefusal) → Makes (Some m) p q (Err refusal)
      → (told_by n (m ∷ ms) p ≡ Err (record { refusal = refusal; index = n })) × (left_by (m ∷ ms) p ≡ q)
  at_refused refusal e = grind (arith, common_steps)

  pub at_accepted : Makes (Some m) p q (Ok tt) → (told_by n (m ∷ ms) p ≡ told_by (suc n) ms q) × (left_by (m ∷ ms) p ≡ left_by ms q)
  at_accepted e = grind (arith, common_steps)

-- A record before others: where all are well formed, its mark is the first.
record Splits (raw : List ℕ) (raws : List (List ℕ)) (n : ℕ) (marks : List Mark) : Type 0 where
  first : Mark
  rest : List Mark
  is : marks ≡ first ∷ rest
  reads : mark_of raw ≡ Some first
  ahead : marks_of (suc n) raws ≡ Ok rest

splits : (raw : List ℕ) (raws : List (List ℕ)) (n : ℕ) (marks : List Mark) → marks_of n (raw ∷ raws) ≡ Ok marks → Splits raw raws n marks
splits raw raws n marks e = by_parts (mark_of raw) (marks_of (suc n) raws) refl refl e
  where
    by_parts : (o : Option Mark) (r : Result (List Mark) Stopped) → mark_of raw ≡ o → marks_of (suc n) raws ≡ r → in_front n o r ≡ Ok marks → Splits raw raws n marks
    by_parts None r a b e = absurd cc
    by_parts (Some m) (Err s) a b e = absurd cc
    by_parts (Some m) (Ok ms) a b e = record { first = m; rest = ms; is = cc; reads = a; ahead = b }

-- A run that has come to a record: the marks from there on decide the rest.
pub record Underway (records : List (List ℕ)) (marks : List Mark) (old now : Pile) (i : ℕ) : Type 0 where
  pub rest : List Mark
  pub ahead : marks_of i (drop i records) ≡ Ok rest
  pub answer : told_by 0 marks old ≡ told_by i rest now
  pub pile : left_by marks old ≡ left_by rest now

module _ (records : List (List ℕ)) (marks : List Mark) (old now new : Pile) (i : ℕ) (u : Underway records marks old now i) where
  pub runs_to_end : length records ≤ i → i ≤ length records → Runs marks old now (Ok (length records))
  runs_to_end h k = let n : i ≡ length records = omega arith in let d = drop_of_length-le records h in let a = u.ahead in grind (arith, common_steps)

  module _ (inside : i < length records) where
    here : Splits (get_or records i []) (drop (suc i) records) i u.rest
    here = splits _ _ i u.rest (subst (λ (l : List (List ℕ)). marks_of i l ≡ Ok u.rest) (drop-cons records i [] inside) u.ahead)

    makes : (r : Result (Unit {0}) PatchFileRefusal) → Makes (mark_of (get_or records i [])) now new r → Makes (Some here.first) now new r
    makes r e = rw here.reads at e

    told_here : told_by 0 marks old ≡ told_by i (here.first ∷ here.rest) now
    told_here = u.answer ∙ ap (λ (ms : List Mark). told_by i ms now) here.is

    left_here : left_by marks old ≡ left_by (here.first ∷ here.rest) now
    left_here = u.pile ∙ ap (λ (ms : List Mark). left_by ms now) here.is

    pub underway_more : Makes (mark_of (get_or records i [])) now new (Ok tt) → Underway records marks old new (i + 1)
    underway_more e = let a = at_accepted here.first here.rest i now new (makes _ e) in rw add-one (record { rest = here.rest; ahead = here.ahead; answer = told_here ∙ a.0; pile = left_here ∙ a.1 })

    pub runs_to_refusal : (refusal : PatchFileRefusal) → Makes (mark_of (get_or records i [])) now new (Err refusal) → Runs marks old new (Err (record { refusal = refusal; index = i }))
    runs_to_refusal refusal e = let a = at_refused here.first here.rest i now new refusal (makes _ e) in record { answer = sym (told_here ∙ a.0); pile = sym (left_here ∙ a.1) }
