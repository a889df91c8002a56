use Prim.Native.Char.{code}
use Rattle.std.proofs.Common.{◌≡◌, ℕ, ◌+◌, ◌-◌, ◌≤◌, List, [], ◌∷◌, ◌++◌, length, drop, Some, nat_le, true, refl, sym, ap, ◌∙◌, arith}
use Rattle.std.specs.List.{slice_set}
use Rattle.std.proofs.lemmas.Bool.Decides.{nat_tests}
use Rattle.std.proofs.lemmas.List.{append_assoc, length-append, length-drop}
use Rattle.std.proofs.lemmas.Grind.{common_steps}
use borrow.Rule.Slice.PartMut.{put_mid}
use Rattle.packets.specs.Digits.{digits}
use Rattle.packets.specs.Frames.{checksum, Frames}

-- a payload behind the first byte, and three bytes behind that
written : (reply payload tail : List ℕ) (n k m : ℕ) → length payload ≡ n → k ≡ 3 → length tail ≡ 3 → m ≡ n → n + 4 ≤ length reply
    → put_mid (n + 1) k (put_mid 1 m (slice_set reply 0 (code "$")) payload) tail ≡ code "$" ∷ (payload ++ (tail ++ drop (n + 4) reply))
written [] payload tail n k m h i j l r = absurd (omega arith)
written (b ∷ bs) payload tail n k m h i j l r = grind (arith, common_steps)

long : (payload tail before : List ℕ) → length tail ≡ 3 → length payload + 4 ≤ length before
    → length (code "$" ∷ (payload ++ (tail ++ drop (length payload + 4) before))) ≡ length before
long payload tail before h k =
    let d = length-drop (length payload + 4) before in
    let t = length-append tail (drop (length payload + 4) before) in
    omega (arith, d, t, length-append payload (tail ++ drop (length payload + 4) before))

module _ (payload before : List ℕ) (room : length before ≡ 4100) (short : length payload ≤ 4096) where
  abbrev n : ℕ
  n = length payload

  pub frames : (front tail : List ℕ) → front ≡ payload → tail ≡ code "#" ∷ digits 2 (checksum payload)
      → Frames payload before (put_mid (n + 1) (n + 1 + 3 - (n + 1)) (put_mid 1 (n + 1 - 1) (slice_set before 0 (code "$")) front) tail) (Some (n + 1 + 3))
  frames front tail e f =
      let t : nat_le (length payload) 4096 ≡ true = grind (arith, nat_tests) in
      let w = written before payload tail n (n + 1 + 3 - (n + 1)) (n + 1 - 1) refl (omega arith) (rw f refl) (omega arith) (omega arith) in
      rw e (record {
        room = ap length w ∙ long payload tail before (rw f refl) (omega arith) ∙ room;
        how_many = rw t (ap Some (omega arith));
        buffer = rw t (w ∙ rw f (ap (λ xs. code "$" ∷ xs) (sym (append_assoc payload (code "#" ∷ digits 2 (checksum payload)) (drop (n + 4) before)))));
      })
