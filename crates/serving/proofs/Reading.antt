use Rattle.std.proofs.Common.{◌≡◌, ℕ, ◌+◌, ◌-◌, ◌<◌, ◌≤◌, List, ◌++◌, length, take, drop, Some, None, Option, nat_lt, refl, sym, ap, ◌∙◌, arith, length-take, length-drop}
use Rattle.std.proofs.lemmas.List.{drop-take, take-take}
use Rattle.std.proofs.lemmas.List.Edits.{take-paste}
use Rattle.std.proofs.lemmas.Slice.{take-put_mid}
use Rattle.std.proofs.lemmas.Bool.Decides.{nat_tests}
use Rattle.std.proofs.Math.Seq.{paste, take-append-add}
use borrow.Rule.Slice.PartMut.{put_mid}
use Rattle.std.specs.List.{copy_within}
use Rattle.std.specs.Io.KnownBytes as known
use Rattle.std.specs.Io.KnownBytes.{Consumes, IsAtEnd}
use Rattle.serving.specs.Reading.{Reads}

-- The buffer of the bytes received.

-- what is left of it after those in front are let go of
pub moved : (bytes : List ℕ) (used count : ℕ) → used ≤ count → count ≤ length bytes → take (count - used) (copy_within bytes used count 0) ≡ drop used (take count bytes)
moved bytes used count u c =
    let left : ℕ = count - used in
    let rest = length-drop used bytes in
    let front : take (0 + left) (paste bytes 0 (drop used bytes) left) ≡ take left (drop used bytes) = take-paste bytes 0 (drop used bytes) left (omega arith) (omega arith) in
    let same : left ≡ 0 + left = omega arith in
    let all : count ≡ used + left = omega arith in
    ap (λ k. take k (paste bytes 0 (drop used bytes) left)) same ∙ front ∙ sym (drop-take used left bytes) ∙ ap (λ k. drop used (take k bytes)) (sym all)

-- the first bytes that were read stand behind those before
placed : (bytes ys : List ℕ) (count k n : ℕ) → count ≤ length bytes → n ≤ length ys → take (count + n) (put_mid count k bytes ys) ≡ take count bytes ++ take n ys
placed bytes ys count k n c l =
    let whole : take (count + length ys) (put_mid count k bytes ys) ≡ take count bytes ++ ys = take-put_mid count k bytes ys (count + length ys) refl c in
    let long : length (take count bytes) ≡ count = rw (length-take count bytes) (omega arith) in
    sym (take-take (count + n) (count + length ys) (put_mid count k bytes ys) (omega arith))
    ∙ ap (take (count + n)) whole
    ∙ ap (λ m. take (m + n) (take count bytes ++ ys)) (sym long)
    ∙ take-append-add (take count bytes) ys n

pub keeps_consumes : (o p q : Option (List ℕ)) (bs : List ℕ) → known.Keeps o p → Consumes p q bs → Consumes o q bs
keeps_consumes None p q bs k c = tt
keeps_consumes (Some xs) None q bs k c = absurd k
keeps_consumes (Some xs) (Some ys) None bs k c = c
keeps_consumes (Some xs) (Some ys) (Some zs) bs k c = sym k ∙ c

pub read_on : (o p q : Option (List ℕ)) (bytes ys : List ℕ) (count k n : ℕ) → known.Keeps o p → Consumes p q (take n ys) × (n ≡ 0 → 0 < length ys → IsAtEnd q)
    → count ≤ length bytes → n ≤ length ys → 0 < length ys → Reads o q (take count bytes) (take (count + n) (put_mid count k bytes ys)) (nat_lt 0 n)
read_on o p q bytes ys count k n kept c fits l some = record {
  piece = take n ys;
  consumes = keeps_consumes o p q (take n ys) kept c.0;
  pending = placed bytes ys count k n fits l;
  none = λ e. let z : n ≡ 0 = grind (arith, nat_tests, e) in (ap (λ m. take m ys) z, c.1 z some);
}
