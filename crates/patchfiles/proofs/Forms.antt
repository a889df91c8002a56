use Rattle.std.proofs.Common.{◌≡◌, ℕ, zero, suc, ◌+◌, ◌*◌, ◌<◌, List, [], ◌∷◌, length, take, drop, get_or, Some, None, Ok, Err, Option, Result, refl, ap, ◌∙◌, arith, true, false, IsSome}
use Rattle.std.specs.Prelude.{is_none, position}
use Rattle.std.specs.Simd.{first_chunks}
use Rattle.std.proofs.lemmas.Bool.Decides.{nat_tests}
use Rattle.std.proofs.lemmas.List.{drop-drop}
use Rattle.std.proofs.lemmas.List.Quantifiers.{position-Some}
use Rattle.std.proofs.lemmas.List.Sums.{fails_before_first}
use Rattle.patchfiles.specs.declared.refusal.PatchFileRefusal.TheVariants.{BadRecord}
use Rattle.patchfiles.specs.declared.stopped.Stopped.{Stopped}
use Rattle.patchfiles.specs.Runs.{Mark}
use Rattle.patchfiles.specs.Records.{mark_of}
use Rattle.patchfiles.specs.Files.{in_front, marks_of}
use Rattle.patchfiles.specs.Ends.{record_at}

-- The records of a file stand one behind the other.
pub length_records : (n : ℕ) (bytes : List ℕ) → length (first_chunks 16 n bytes) ≡ n
length_records zero bytes = refl
length_records (suc n) bytes = ap suc (length_records n (drop 16 bytes))

pub record_is : (n k : ℕ) (bytes : List ℕ) → k < n → get_or (first_chunks 16 n bytes) k [] ≡ record_at bytes k
record_is zero k bytes h = absurd (omega arith)
record_is (suc n) zero bytes h = refl
record_is (suc n) (suc k) bytes h = record_is n k (drop 16 bytes) (omega arith) ∙ ap (take 16) (drop-drop (16 * k) 16 bytes ∙ ap (λ (i : ℕ). drop i bytes) (omega arith))

-- the records before a place are well formed
abbrev pub Before : List (List ℕ) → ℕ → Type 0
Before raws n = (k : ℕ) → k < n → IsSome (mark_of (get_or raws k []))

-- the record at a place is the first that is malformed
pub record Faulty (raws : List (List ℕ)) (at : ℕ) : Type 0 where
  pub inside : at < length raws
  pub malformed : mark_of (get_or raws at []) ≡ None
  pub before : Before raws at

-- Records are well formed, or one is the first that is not.
abbrev pub Formed : List (List ℕ) → Option ℕ → Type 0
Formed raws None = Before raws (length raws)
Formed raws (Some k) = Faulty raws k

none_there : (o : Option Mark) → is_none o ≡ true → o ≡ None
none_there None h = refl
none_there (Some m) h = absurd cc

some_there : (o : Option Mark) → is_none o ≡ false → IsSome o
some_there None h = absurd cc
some_there (Some m) h = refl

pub formed : (raws : List (List ℕ)) (first : Option ℕ) → position (λ raw. is_none (mark_of raw)) raws ≡ first → Formed raws first
formed raws None e = λ k h. some_there _ (fails_before_first (λ raw. is_none (mark_of raw)) raws k [] (grind (arith, nat_tests)))
formed raws (Some k) e = let f = position-Some (λ raw. is_none (mark_of raw)) raws k [] e in
    record { inside = f.0; malformed = none_there _ f.1; before = λ i h. some_there _ (f.2 i h) }

-- Well-formed records have their marks.
pub mark_there : (o : Option Mark) → IsSome o → (m : Mark) × (o ≡ Some m)
mark_there None h = absurd cc
mark_there (Some m) h = (m, refl)

mark_in_front : (raw : List ℕ) (raws : List (List ℕ)) (n : ℕ) (m : Mark) (rest : Result (List Mark) Stopped) → mark_of raw ≡ Some m → marks_of (suc n) raws ≡ rest
    → marks_of n (raw ∷ raws) ≡ in_front n (Some m) rest
mark_in_front raw raws n m rest e f = rw (e, f) refl

pub marks_there : (raws : List (List ℕ)) (n : ℕ) → Before raws (length raws) → (marks : List Mark) × (marks_of n raws ≡ Ok marks)
marks_there [] n f = ([], refl)
marks_there (raw ∷ raws) n f =
    let m = mark_there (mark_of raw) (f 0 (omega arith)) in
    let rest = marks_there raws (suc n) (λ k h. f (suc k) (omega arith)) in
    (m.0 ∷ rest.0, mark_in_front raw raws n m.0 _ m.1 rest.1)

-- The first malformed record is the refused one.
pub first_refused : (raws : List (List ℕ)) (n k i : ℕ) → n + k ≡ i → Faulty raws k → marks_of n raws ≡ Err (record { refusal = BadRecord; index = i })
first_refused [] n k i e f = absurd (omega arith)
first_refused (raw ∷ raws) n zero i e f = rw f.malformed (ap (λ (j : ℕ). Err (record { refusal = BadRecord; index = j })) (omega arith))
first_refused (raw ∷ raws) n (suc k) i e f =
    let m = mark_there (mark_of raw) (f.before 0 (omega arith)) in
    let behind : Faulty raws k = record { inside = omega arith; malformed = f.malformed; before = λ j h. f.before (suc j) (omega arith) } in
    mark_in_front raw raws n m.0 _ m.1 (first_refused raws (suc n) k i (omega arith) behind)
