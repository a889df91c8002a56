use Rattle.std.proofs.Common.{◌≡◌, ℕ, zero, suc, ◌+◌, ◌<◌, ◌≤◌, List, [], ◌∷◌, ◌++◌, length, get_or, take, drop, set, sym, ap, ◌∙◌, ap₂, add-one, append_assoc, arith}
use lib.Seq.{paste}
use borrow.Rule.Slice.PartMut.{put_mid}
use Rattle.std.specs.List.{refill}
use Rattle.std.proofs.lemmas.Grind.{common_steps}
use Rattle.std.proofs.lemmas.List.{take_more_set, take_all, take_at, take-append-le, take-take, drop_at, drop-drop, length-append, length-take-le, length-drop}
use Rattle.spaces.specs.declared.patch.Patch.{Patch}
use Rattle.spaces.specs.Patches.{Patches, laid}
use Rattle.spaces.proofs.Laying.{length_laid}

-- one byte more
laid_suc : (first : ℕ) (bytes : List ℕ) (i : ℕ) → i < length bytes → laid first (take (suc i) bytes) ≡ laid first (take i bytes) ++ (record { address = first + i; byte = get_or bytes i 0 } ∷ [])
laid_suc first [] i h = absurd (omega arith)
laid_suc first (b ∷ bs) zero h = grind (arith, common_steps)
laid_suc first (b ∷ bs) (suc i) h = let ih = laid_suc (suc first) bs i (omega arith) in grind (arith, common_steps)

pub laid_more : (front : Patches) (first : ℕ) (bytes : List ℕ) (i : ℕ) → i < length bytes
    → (front ++ laid first (take i bytes)) ++ (record { address = first + i; byte = get_or bytes i 0 } ∷ []) ≡ front ++ laid first (take (i + 1) bytes)
laid_more front first bytes i h = rw (add-one, laid_suc first bytes i h, append_assoc)

-- while some are still to be laid, there is room
pub laid_fits : (front ps : Patches) (first : ℕ) (bytes : List ℕ) (i : ℕ) → i < length bytes → ps ≡ front ++ laid first (take i bytes) → length front + length bytes ≤ 256 → length ps < 256
laid_fits front ps first bytes i h e k = rw e (simp length-append (omega (arith, length_laid first (take i bytes), length-take-le i bytes (omega arith))))

module _ (first : ℕ) (bytes : List ℕ) (out : Patches) (i : ℕ) (so_far : take i out ≡ laid first (take i bytes)) where
  pub lay_more : i < length bytes → i < length out → take (i + 1) (set out i (record { address = first + i; byte = get_or bytes i 0 })) ≡ laid first (take (i + 1) bytes)
  lay_more h k =
      let p : Patch = record { address = first + i; byte = get_or bytes i 0 } in
      take_more_set out i p k ∙ ap (λ (ps : Patches). ps ++ (p ∷ [])) so_far ∙ sym (rw add-one (laid_suc first bytes i h))

  pub lay_all : length bytes ≤ i → length out ≤ i → out ≡ laid first bytes
  lay_all h k = sym (take_all i out k) ∙ so_far ∙ ap (laid first) (take_all i bytes h)

-- r patches from high on were moved to low + n, and then n new ones written from low on
module _ (xs new : Patches) (low high n r j : ℕ) (written : length new ≡ n) (same : j ≡ n) (there : high + r ≤ length xs) (room : low + n + r ≤ length xs) where
  abbrev moved : Patches
  moved = paste xs (low + n) (drop high xs) r

  abbrev tail : Patches
  tail = take r (drop high xs)

  abbrev rest : Patches
  rest = drop (low + n + r) xs

  front_length : length (take (low + n) xs) ≡ low + n
  front_length = length-take-le (low + n) xs (omega arith)

  tail_length : length tail ≡ r
  tail_length = length-take-le r (drop high xs) (simp length-drop (omega arith))

  front : take low moved ≡ take low xs
  front = ap (take low) (append_assoc (take (low + n) xs) tail rest) ∙ take-append-le low (take (low + n) xs) (tail ++ rest) (omega (arith, front_length)) ∙ take-take low (low + n) xs (omega arith)

  back : drop j (drop low moved) ≡ tail ++ rest
  back = drop-drop j low moved ∙ ap (drop (low + j)) (append_assoc (take (low + n) xs) tail rest) ∙ drop_at (take (low + n) xs) (tail ++ rest) (low + j) (omega (arith, front_length))

  pub spliced : take (low + n + r) (put_mid low j moved new) ≡ take low xs ++ (new ++ tail)
  spliced =
      ap (take (low + n + r)) (ap₂ (λ (a b : Patches). a ++ (new ++ b)) front back ∙ simp append_assoc)
      ∙ take_at (take low xs ++ (new ++ tail)) rest (low + n + r) (simp length-append (omega (arith, length-take-le low xs (omega arith), tail_length)))

-- The same in a table that was made longer first: its n patches afterwards.
pub trimmed : (n count low high : ℕ) (ps new places longer written : Patches) → count ≡ length ps → places ≡ longer → take (length ps) longer ≡ ps → length written ≡ length longer
    → take n written ≡ take low (take count places) ++ (new ++ drop high (take count places)) → take n (refill (length longer) longer written) ≡ take low ps ++ (new ++ drop high ps)
trimmed n count low high ps new places longer written c e k l h =
    let same : take count places ≡ ps = rw (c, e) k in
    ap (take n) (take_at written (drop (length written) longer) (length longer) l) ∙ h ∙ ap (λ (qs : Patches). take low qs ++ (new ++ drop high qs)) same
