use Rattle.std.proofs.Common.{◌≡◌, ℕ, zero, suc, ◌+◌, ◌/◌, ◌%◌, ◌^◌, ◌<◌, List, ◌++◌, length, Some, refl, ap, ◌∙◌, arith}
use Rattle.std.specs.List.{All}
use Rattle.std.proofs.Math.Nat.{pow-suc}
use Rattle.std.proofs.lemmas.Bool.Decides.{nat_tests}
use Rattle.std.proofs.lemmas.List.{length-append, take_at, drop_at, drop-drop}
use Rattle.std.proofs.lemmas.List.Elements.{All-nil, All-cons}
use Rattle.std.proofs.lemmas.Nat.{div_below, mod_below}
use Rattle.endian.specs.Little.{little_endian, little_endian_bytes, number_at, number_in}
use Rattle.endian.specs.ReadBack.{EveryNumberIsReadBack}

-- A number is read back from its bytes.

pub length-little_endian_bytes : (width n : ℕ) → length (little_endian_bytes width n) ≡ width
length-little_endian_bytes zero n = refl
length-little_endian_bytes (suc width) n = ap suc (length-little_endian_bytes width (n / 256))

pub little_endian-little_endian_bytes : (width n : ℕ) → n < 256 ^ width → little_endian (little_endian_bytes width n) ≡ n
little_endian-little_endian_bytes zero n h = omega arith
little_endian-little_endian_bytes (suc width) n h =
    let above : n / 256 < 256 ^ width = div_below n 256 (256 ^ width) (omega arith) (omega (arith, pow-suc 256 width)) in
    let back = little_endian-little_endian_bytes width (n / 256) above in
    omega arith

all_bytes : (width n : ℕ) → All (λ b. b < 256) (little_endian_bytes width n)
all_bytes zero n = All-nil (λ b. b < 256)
all_bytes (suc width) n = All-cons (λ b. b < 256) (n % 256) (little_endian_bytes width (n / 256)) (mod_below n 256 (omega arith)) (all_bytes width (n / 256))

-- behind some bytes a number is read as it is without them
pub number_at-append : (front bytes : List ℕ) (place inner width : ℕ) → place ≡ length front + inner → number_at (front ++ bytes) place width ≡ number_at bytes inner width
number_at-append front bytes place inner width e = rw (e, ← drop-drop inner (length front) (front ++ bytes), drop_at front bytes (length front) refl)

module _ (width n : ℕ) (h : n < 256 ^ width) (front rest : List ℕ) where
  number_there : number_at (front ++ (little_endian_bytes width n ++ rest)) (length front) width ≡ n
  number_there =
      number_at-append front (little_endian_bytes width n ++ rest) (length front) 0 width (omega arith)
      ∙ ap little_endian (take_at (little_endian_bytes width n) rest width (length-little_endian_bytes width n))
      ∙ little_endian-little_endian_bytes width n h

  number_back : number_in (front ++ (little_endian_bytes width n ++ rest)) (length front) width ≡ Some n
  number_back = grind (arith, nat_tests, number_there, length-append, length-little_endian_bytes)

pub every_number : EveryNumberIsReadBack
every_number width n h = record { count = length-little_endian_bytes width n; bytes = all_bytes width n; number = number_back width n h }
