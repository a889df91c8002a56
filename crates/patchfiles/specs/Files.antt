use Rattle.std.specs.Prelude.{◌≡◌, ℕ, suc, ◌/◌, ◌%◌, if◌then◌else◌, List, [], ◌∷◌, length, Some, None, Ok, Err, Option, Result, ◌==◌}
use Rattle.std.specs.Simd.{first_chunks}
use Rattle.patchfiles.specs.declared.refusal.PatchFileRefusal.TheVariants.{BadLength, BadRecord}
use Rattle.spaces.specs.Piles.{Pile}
use Rattle.patchfiles.specs.declared.stopped.Stopped.{Stopped}
use Rattle.patchfiles.specs.Runs.{Mark, left_by, told_by}
use Rattle.patchfiles.specs.Records.{mark_of}

-- A patch file: records, one behind the other, and no header.

-- what the records ask for, the first of them with index n, or the first that is malformed
abbrev pub in_front : ℕ → Option Mark → Result (List Mark) Stopped → Result (List Mark) Stopped
in_front n None rest = Err (record { refusal = BadRecord; index = n })
in_front n (Some m) (Ok ms) = Ok (m ∷ ms)
in_front n (Some m) (Err stopped) = Err stopped

abbrev pub marks_of : ℕ → List (List ℕ) → Result (List Mark) Stopped
marks_of n [] = Ok []
marks_of n (raw ∷ raws) = in_front n (mark_of raw) (marks_of (suc n) raws)

-- what a file asks for, or why it is no patch file: its length first, then the form of each record
abbrev pub asked : List ℕ → Result (List Mark) Stopped
asked file = if length file % 16 == 0 then marks_of 0 (first_chunks 16 (length file / 16) file) else Err (record { refusal = BadLength; index = 0 })

-- what is answered, and the pile that is left: nothing takes effect before every record is well formed
abbrev pub answer_by : Result (List Mark) Stopped → Pile → Result ℕ Stopped
answer_by (Ok marks) p = told_by 0 marks p
answer_by (Err stopped) p = Err stopped

-- the edits that take effect: none of a malformed file's
abbrev pub filed : Result (List Mark) Stopped → List Mark
filed (Ok marks) = marks
filed (Err stopped) = []

abbrev pub left_of : Result (List Mark) Stopped → Pile → Pile
left_of r p = left_by (filed r) p

-- what applying a file to a pile answers and leaves
pub record Applies (old new : Pile) (file : List ℕ) (r : Result ℕ Stopped) : Type 0 where
  pub answer : r ≡ answer_by (asked file) old
  pub pile : new ≡ left_of (asked file) old
