use Rattle.std.proofs.Common.{ℕ, ◌*◌, ◌^◌, ◌≤◌, List, [], ◌∷◌, length, Some, None, Option, arith}
use Rattle.packets.specs.Digits.{spelled, paired, in_front}
use Rattle.packets.specs.Commands.{Asked}
use Rattle.packets.specs.Forms.{Asks, asks_why, asks_read, asks_write, asks_registers, asks_detach, asks_thread, asks_supported, asks_depth, asks_fault, asks_other}
use Rattle.sessions.specs.Texts.{end_of}

-- No command that is accepted passes address 2 ^ 64 - 1.

pairs_few : (digits : List ℕ) → 2 * length (paired digits) ≤ length digits
pairs_few [] = omega arith
pairs_few (c ∷ []) = omega arith
pairs_few (high ∷ low ∷ rest) = step (spelled 0 (high ∷ low ∷ [])) (pairs_few rest)
  where
    step : (o : Option ℕ) → 2 * length (paired rest) ≤ length rest → 2 * length (in_front o (paired rest)) ≤ length (high ∷ low ∷ rest)
    step None ih = omega arith
    step (Some b) ih = omega (arith, ih)

pub ends : (payload : List ℕ) (asked : Asked) → Asks payload asked → end_of asked ≤ 2 ^ 64
ends payload asked asks_why = omega arith
ends payload asked (asks_read text first count span some end) = end
ends payload asked (asks_write text first count digits bytes some two end) = let few = pairs_few digits in omega (arith, few, two, end)
ends payload asked asks_registers = omega arith
ends payload asked asks_detach = omega arith
ends payload asked (asks_thread text) = omega arith
ends payload asked (asks_supported text) = omega arith
ends payload asked (asks_depth text d is) = omega arith
ends payload asked asks_fault = omega arith
ends payload asked (asks_other p none) = omega arith
