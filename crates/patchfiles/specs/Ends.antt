use Rattle.std.specs.Prelude.{◌≡◌, ◌≢◌, ◌↔◌, ℕ, suc, ◌*◌, ◌%◌, ◌<◌, List, length, take, drop, IsSome, Some, None, Ok, Err, Result}
use Rattle.spaces.specs.declared.refusal.EditRefusal.{EditRefusal}
use Rattle.patchfiles.specs.declared.refusal.PatchFileRefusal.TheVariants as why
use Rattle.spaces.specs.Piles.{Pile}
use Rattle.patchfiles.specs.declared.stopped.Stopped.{Stopped}
use Rattle.patchfiles.specs.Runs.{Mark, refused, marked}
use Rattle.patchfiles.specs.Records.{mark_of}
use Rattle.patchfiles.specs.Files.{Applies}

-- Applying a patch file, in plain words. The definitions in Files are proved to say the same.

-- the record with an index, and that the first n are well formed
abbrev pub record_at : List ℕ → ℕ → List ℕ
record_at file k = take 16 (drop (16 * k) file)

abbrev pub WellFormed : List ℕ → ℕ → Type 0
WellFormed file n = (k : ℕ) → k < n → IsSome (mark_of (record_at file k))

-- the first records were each accepted and took effect, one after the other, and led from one pile to another
pub data Leads (file : List ℕ) (p : Pile) : ℕ → Pile → Type 0 where
  here : Leads file p 0 p
  next : {n : ℕ} {q : Pile} {m : Mark} → Leads file p n q → mark_of (record_at file n) ≡ Some m → refused q m ≡ None → Leads file p (suc n) (marked q m)

-- The ways in which applying a file to a pile ends, each with what is answered and the pile that is left: its length is wrong; a
-- record is malformed; of n well-formed records one is refused, and those before it took effect; all of them took effect.
pub data Ends (file : List ℕ) (p : Pile) : Result ℕ Stopped → Pile → Type 0 where
  bad_length : length file % 16 ≢ 0 → Ends file p (Err (record { refusal = why.BadLength; index = 0 })) p
  bad_record : {n k : ℕ} → length file ≡ 16 * n → k < n → WellFormed file k → mark_of (record_at file k) ≡ None
      → Ends file p (Err (record { refusal = why.BadRecord; index = k })) p
  stops : {n k : ℕ} {q : Pile} {m : Mark} {refusal : EditRefusal} → length file ≡ 16 * n → WellFormed file n → k < n → Leads file p k q
      → mark_of (record_at file k) ≡ Some m → refused q m ≡ Some refusal → Ends file p (Err (record { refusal = why.Edit refusal; index = k })) q
  goes_through : {n : ℕ} {q : Pile} → length file ≡ 16 * n → Leads file p n q → Ends file p (Ok n) q

-- what `apply` answers and leaves is one of these, and nothing else is
abbrev pub EveryPatchFileEndsInOneOfFourWays : Type 0
EveryPatchFileEndsInOneOfFourWays = (file : List ℕ) (old new : Pile) (r : Result ℕ Stopped) → Applies old new file r ↔ Ends file old r new
