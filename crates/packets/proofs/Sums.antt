use Rattle.std.proofs.Common.{◌≡◌, ℕ, ◌+◌, ◌%◌, List, refl, arith}
use Rattle.std.specs.List.{fold}
use Rattle.std.proofs.lemmas.List.Folds.{fold_along}
use Rattle.packets.specs.Frames.{checksum}

-- adding up modulo 256 all along gives the sum modulo 256
pub folded : (xs : List ℕ) → fold (λ s b. (s + b) % 256) 0 xs ≡ checksum xs
folded xs = fold_along _ ◌+◌ (λ s t. s ≡ t % 256) (λ s t b e. omega (arith, e)) 0 0 xs refl
