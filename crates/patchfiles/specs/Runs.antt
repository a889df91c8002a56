use Rattle.std.specs.Prelude.{◌≡◌, ℕ, suc, List, [], ◌∷◌, Some, None, Ok, Err, Option, Result}
use Rattle.spaces.specs.declared.refusal.EditRefusal.{EditRefusal}
use Rattle.spaces.specs.Piles.{Pile}
use Rattle.spaces.specs.Edits.{Edit, refusal, edited, unless}
use Rattle.patchfiles.specs.declared.refusal.PatchFileRefusal.{PatchFileRefusal}
use Rattle.patchfiles.specs.declared.refusal.PatchFileRefusal.TheVariants as why
use Rattle.patchfiles.specs.declared.stopped.Stopped.{Stopped}

-- Edits of a pile, one behind the other.

-- an edit and the depth at which it is edit_answer
pub record Mark : Type 0 where
  pub depth : ℕ
  pub edit : Edit

-- the refusal of a mark in a pile, and the pile after it
abbrev pub refused : Pile → Mark → Option EditRefusal
refused p m = refusal p m.depth m.edit

abbrev pub marked : Pile → Mark → Pile
marked p m = edited p m.depth m.edit

-- what making a mark answers
abbrev pub edit_answer : Option EditRefusal → Result (Unit {0}) PatchFileRefusal
edit_answer None = Ok tt
edit_answer (Some refusal) = Err (why.Edit refusal)

-- what making a mark answers and leaves; a malformed record has none
abbrev pub Makes : Option Mark → Pile → Pile → Result (Unit {0}) PatchFileRefusal → Type 0
Makes None old new r = (r ≡ Err why.BadRecord) × (new ≡ old)
Makes (Some m) old new r = (r ≡ edit_answer (refused old m)) × (new ≡ marked old m)

-- the pile after marks in order, of which the first refused one ends all
abbrev pub left_by : List Mark → Pile → Pile
left_by [] p = p
left_by (m ∷ ms) p = unless (refused p m) p (left_by ms (marked p m))

-- how many marks there are, counted on from n, or the first refused, with its index
abbrev pub counted : ℕ → Option EditRefusal → Result ℕ Stopped → Result ℕ Stopped
counted n None rest = rest
counted n (Some refusal) rest = Err (record { refusal = why.Edit refusal; index = n })

abbrev pub told_by : ℕ → List Mark → Pile → Result ℕ Stopped
told_by n [] p = Ok n
told_by n (m ∷ ms) p = counted n (refused p m) (told_by (suc n) ms (marked p m))

-- what a run of marks answers and leaves
pub record Runs (marks : List Mark) (old new : Pile) (r : Result ℕ Stopped) : Type 0 where
  pub answer : r ≡ told_by 0 marks old
  pub pile : new ≡ left_by marks old
