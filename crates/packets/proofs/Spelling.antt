use Rattle.std.proofs.Common.{◌≡◌, ℕ, suc, ◌+◌, ◌*◌, ◌/◌, ◌%◌, ◌^◌, ◌<◌, ◌≤◌, List, [], ◌∷◌, ◌++◌, length, take, drop, arith, pow-add, pow_mono}
use Rattle.std.specs.List.{slice_set}
use Rattle.std.proofs.lemmas.List.{append_assoc}
use Rattle.std.proofs.lemmas.Grind.{drop-set_at}
use Rattle.packets.specs.Digits.{lower, digits, paired}

-- one digit more behind at most fifteen
module _ (n i : ℕ) (small : n < 2 ^ (4 * i)) where
  pub one_more : (d : ℕ) → d < 16 → n * 16 + d < 2 ^ (4 * (i + 1))
  one_more d h = let e : 2 ^ (4 * (i + 1)) ≡ 16 * 2 ^ (4 * i) = grind (arith, pow-add 2 4 (4 * i)) in omega (arith, e)

  pub fits : (d : ℕ) → d < 16 → i < 16 → n * 16 + d < 2 ^ 64
  fits d h k = omega (arith, one_more d h, pow_mono {i = 4 * (i + 1)} {j = 64} (omega arith))

-- pairs of digits are being read: n bytes are placed, and those of the rest come behind them
pub record Paired (digits rest before after : List ℕ) (n : ℕ) : Type 0 where
  pub long : length after ≡ length before
  pub within : n ≤ length before
  pub left : drop n after ≡ drop n before
  pub so_far : paired digits ≡ take n after ++ paired rest

-- the next lowest digit is put before those written
pub one_before : (n m rest : ℕ) (xs : List ℕ) → n ≡ suc m → n ≤ length xs → digits n rest ++ drop n xs ≡ digits m (rest / 16) ++ drop m (slice_set xs m (lower (rest % 16)))
one_before n m rest xs e k = let s = drop-set_at xs m m (lower (rest % 16)) in grind (arith, append_assoc (digits m (rest / 16)) (lower (rest % 16) ∷ []))
