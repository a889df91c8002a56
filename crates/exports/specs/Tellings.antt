use Rattle.std.specs.Prelude.{ℕ}
use Rattle.exports.specs.declared.told.Told.{Told}

-- What is told of a call.

abbrev pub done : (place count : ℕ) → Told
done place count = record { refusal = 0; place = place; count = count }

abbrev pub refused : (number place count : ℕ) → Told
refused number place count = record { refusal = number; place = place; count = count }

-- the number that no refusal has: serving broke off
abbrev pub broke_off : Told
broke_off = record { refusal = 0xff; place = 0; count = 0 }
