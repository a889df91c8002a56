use Rattle.std.proofs.Common.{◌≡◌, ℕ, ◌*◌, ◌/◌, ◌≤◌, List, [], ◌∷◌, length, take, drop, Some, None, Option, refl, sym, ◌∙◌, arith, take_all}
use Rattle.std.proofs.lemmas.List.{take_at}
use Rattle.spaces.specs.declared.fault.Fault.{Fault}
use Rattle.packets.specs.Digits.{spell, Spells}
use Rattle.packets.proofs.Reading.{length_spell}
use Rattle.sessions.specs.Answers.{spoken}
use Rattle.sessions.specs.Texts.{Begins}

-- The texts of replies in their buffer.

pub spelled_front : (bytes old new : List ℕ) (n : ℕ) → Spells bytes old new n → length old ≡ 4096 → length bytes ≤ 2048 → Begins (spell bytes) new n
spelled_front bytes old new n s long few =
    let half : length old / 2 ≡ 2048 = rw long refl in
    let count : n ≡ 2 * length bytes = omega (arith, s.how_many) in
    let whole : take (length old / 2) bytes ≡ bytes = rw half (take_all 2048 bytes few) in
    record {
      how_many = count ∙ sym (length_spell bytes);
      fits = omega arith;
      front = rw (s.buffer, whole) (take_at (spell bytes) (drop n old) n (length_spell bytes ∙ sym count));
    }

-- some bytes are spelled, whatever was met behind them, and none where nothing was met
pub spoken_spelled : (bytes : List ℕ) (met : Option Fault) → ((f : Fault) → met ≡ Some f → length bytes ≡ 0 → ⊥) → spoken bytes met ≡ spell bytes
spoken_spelled [] None n = refl
spoken_spelled [] (Some f) n = absurd (n f refl refl)
spoken_spelled (b ∷ bytes) met n = refl
