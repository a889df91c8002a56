use Rattle.std.proofs.Common.{◌≡◌, ℕ, List, [], ◌∷◌, Some, None, Option, refl, ◌∙◌}
use Rattle.spaces.specs.declared.refusal.EditRefusal.{EditRefusal}
use Rattle.spaces.specs.Piles.{Pile, Lawful}
use Rattle.spaces.specs.Edits.{patch_at, unless, outcome}
use Rattle.spaces.specs.EditLaws.{bare, Touches, PileEditLaws}
use Rattle.spaces.proofs.PileEdits.{pile_edit_laws}
use Rattle.spaces.proofs.OffTrail.{kept_patch}
use Rattle.patchfiles.specs.Runs.{Mark, refused, marked, left_by}
use Rattle.sessions.specs.Histories.{History, Earlier, same, before}
use Rattle.sessions.specs.Books.{book, in_force, marks, Takes, first, later}
use Rattle.sessions.specs.Promises.{Change}
use Rattle.sessions.specs.Laws.{NothingRefusedTakesEffect}

-- What edits leave: a lawful pile, the same but for its patches, and these too where none of them is touched.

pub record Kin (p q : Pile) : Type 0 where
  pub lawful : Lawful q
  pub rest : bare q ≡ bare p

one_kin : (p q : Pile) (m : Mark) → Kin p q → Kin p (marked q m)
one_kin p q m k = let laws = pile_edit_laws (record { pile = q; lawful = k.lawful }) m.depth m.edit in record { lawful = laws.lawful; rest = laws.rest ∙ k.rest }

pub marks_kin : (p : Pile) (ms : List Mark) (q : Pile) → Kin p q → Kin p (left_by ms q)
marks_kin p [] q k = k
marks_kin p (m ∷ ms) q k = step (refused q m) (marks_kin p ms (marked q m) (one_kin p q m k))
  where
    step : (o : Option EditRefusal) → Kin p (left_by ms (marked q m)) → Kin p (unless o q (left_by ms (marked q m)))
    step None ih = ih
    step (Some n) ih = k

-- the pile under the patches in force
pub book_kin : (p : Pile) (h : History) → Lawful p → Kin p (in_force p h)
book_kin p [] l = record { lawful = l; rest = refl }
book_kin p (e ∷ h) l = marks_kin p (marks (book p h) e) (in_force p h) (book_kin p h l)

-- a depth and an address
module _ (j a : ℕ) where
  abbrev Off : Pile → Mark → Type 0
  Off q m = (j ≡ m.depth) → Touches m.edit (patch_at q m.depth) a → ⊥

  abbrev Same : Pile → Pile → Type 0
  Same p q = patch_at p j a ≡ patch_at q j a

  marks_same : (ms : List Mark) (q : Pile) → Lawful q → ((r : Pile) (m : Mark) → Takes q ms r m → Off r m) → Same q (left_by ms q)
  marks_same [] q l off = refl
  marks_same (m ∷ ms) q l off = step (refused q m) refl (marks_same ms (marked q m) laws.lawful)
    where
      laws : PileEditLaws m.depth m.edit q (marked q m) (outcome (refused q m))
      laws = pile_edit_laws (record { pile = q; lawful = l }) m.depth m.edit

      step : (o : Option EditRefusal) → refused q m ≡ o → (((r : Pile) (n : Mark) → Takes (marked q m) ms r n → Off r n) → Same (marked q m) (left_by ms (marked q m)))
          → Same q (unless o q (left_by ms (marked q m)))
      step None e ih = kept_patch (record { pile = q; lawful = l }) m.depth m.edit j a (off q m (first e)) ∙ ih (λ r n t. off r n (later e t))
      step (Some n) e ih = refl

  -- between two times of a run
  pub run_same : (p : Pile) → Lawful p → {old new : History} → Earlier old new → ((c : Change p old new) → Off c.pile c.mark) → Same (in_force p old) (in_force p new)
  run_same p l same off = refl
  run_same p l {old} (before {k = k} {e = e} t) off =
      run_same p l t (λ c. off (record { between = c.between; event = c.event; begins = c.begins; ends = before c.ends; pile = c.pile; mark = c.mark; takes = c.takes }))
      ∙ marks_same (marks (book p k) e) (in_force p k) (book_kin p k l).lawful (λ r m t′. off (record { between = k; event = e; begins = t; ends = same; pile = r; mark = m; takes = t′ }))

-- what takes effect was accepted
accepted : {p q : Pile} {ms : List Mark} {m : Mark} → Takes p ms q m → refused q m ≡ None
accepted (first e) = e
accepted (later e t) = accepted t

pub takes_accepted : NothingRefusedTakesEffect
takes_accepted p q ms m t = accepted t
