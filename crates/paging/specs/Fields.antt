use Rattle.std.specs.Prelude.{◌≡◌, ℕ, suc, ◌+◌, ◌-◌, ◌/◌, ◌%◌, ◌^◌, ◌<◌, ◌≤◌, nat_lt}
use Rattle.std.proofs.Common.{sym, ap, ◌∙◌, subst, arith, pow_mono}
use Rattle.std.proofs.lemmas.Nat.{pow_pos, mod_below, shr-shr, shl_below, div_below}
use Rattle.std.proofs.lemmas.Bool.Decides.{nat_tests}
use Rattle.paging.specs.Bits.{field, bits}

-- bits so high that a number has none there
pub field_none : (high low x : ℕ) → x < 2 ^ low → field high low x ≡ 0
field_none high low x h =
    let e : x / 2 ^ low ≡ 0 = omega (arith, div_below x (2 ^ low) 1 (pow_pos low) (omega arith)) in
    rw e (omega (arith, mod_below 0 (2 ^ (suc high - low)) (pow_pos (suc high - low))))

-- a field is as small as its bits are few
pub field_below : (high low n x : ℕ) → suc high ≤ n + low → field high low x < 2 ^ n
field_below high low n x h =
    let k : suc high - low ≤ n = omega arith in
    omega (arith, mod_below (x / 2 ^ low) (2 ^ (suc high - low)) (pow_pos (suc high - low)), pow_mono k)

pub bits_below : (high low n x : ℕ) → low ≤ n → suc high ≤ n → bits high low x < 2 ^ n
bits_below high low n x h k =
    let e : n - low + low ≡ n = omega arith in
    subst (λ (i : ℕ). bits high low x < 2 ^ i) e (shl_below (field high low x) (n - low) low (field_below high low (n - low) x (omega arith)))

-- numbers alike from a bit on are alike from each higher one on
pub alike_above : (j k a b : ℕ) → j ≤ k → a / 2 ^ j ≡ b / 2 ^ j → a / 2 ^ k ≡ b / 2 ^ k
alike_above j k a b h q =
    let e : j + (k - j) ≡ k = omega arith in
    subst (λ (i : ℕ). a / 2 ^ i ≡ b / 2 ^ i) e (sym (shr-shr a j (k - j)) ∙ ap (λ (x : ℕ). x / 2 ^ (k - j)) q ∙ shr-shr b j (k - j))

pub field_alike : (high low j a b : ℕ) → j ≤ low → a / 2 ^ j ≡ b / 2 ^ j → field high low a ≡ field high low b
field_alike high low j a b h q = ap (λ (x : ℕ). x % 2 ^ (suc high - low)) (alike_above j low a b h q)

pub below_alike : (j a b : ℕ) → j ≤ 32 → a / 2 ^ j ≡ b / 2 ^ j → nat_lt a (2 ^ 32) ≡ nat_lt b (2 ^ 32)
below_alike j a b h q = let t : a / 2 ^ 32 ≡ b / 2 ^ 32 = alike_above j 32 a b h q in grind (arith, nat_tests)
