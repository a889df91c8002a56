use Rattle.std.proofs.Common.{◌≡◌, ◌≢◌, ℕ, ◌*◌, ◌/◌, ◌%◌, List, length, Ok, Err, Result, refl, ◌∙◌, arith}
use Rattle.std.specs.Simd.{first_chunks}
use Rattle.std.proofs.lemmas.Bool.Decides.{nat_tests}
use Rattle.patchfiles.specs.declared.refusal.PatchFileRefusal.TheVariants.{BadLength, BadRecord}
use Rattle.spaces.specs.Piles.{Pile}
use Rattle.patchfiles.specs.declared.stopped.Stopped.{Stopped}
use Rattle.patchfiles.specs.Runs.{Mark, Runs}
use Rattle.patchfiles.specs.Files.{marks_of, asked, answer_by, left_of, Applies}
use Rattle.patchfiles.proofs.Forms.{Faulty, first_refused}

-- What applying a file answers and leaves, by what the file asks for.
module _ (file : List ℕ) (p : Pile) where
  applies_by : (q : Pile) (r : Result ℕ Stopped) (w : Result (List Mark) Stopped) → asked file ≡ w → r ≡ answer_by w p → q ≡ left_of w p → Applies p q file r
  applies_by q r w e a b = record { answer = rw e a; pile = rw e b }

  pub bad_length_applies : length file % 16 ≢ 0 → Applies p p file (Err (record { refusal = BadLength; index = 0 }))
  bad_length_applies d = applies_by p _ (Err (record { refusal = BadLength; index = 0 })) (grind (arith, nat_tests)) refl refl

  -- a file of n records
  module _ (n : ℕ) (raws : List (List ℕ)) (whole : length file ≡ 16 * n) (are : raws ≡ first_chunks 16 n file) where
    asks_each : asked file ≡ marks_of 0 raws
    asks_each = let d : length file / 16 ≡ n = omega arith in let z : length file % 16 ≡ 0 = omega arith in rw (are, ← d) (grind (arith, nat_tests))

    pub fault_applies : (k : ℕ) → Faulty raws k → Applies p p file (Err (record { refusal = BadRecord; index = k }))
    fault_applies k f = applies_by _ _ _ (asks_each ∙ first_refused raws 0 k k (omega arith) f) refl refl

    pub run_applies : (q : Pile) (r : Result ℕ Stopped) (marks : List Mark) → marks_of 0 raws ≡ Ok marks → Runs marks p q r → Applies p q file r
    run_applies q r marks e s = applies_by _ _ _ (asks_each ∙ e) s.answer s.pile
