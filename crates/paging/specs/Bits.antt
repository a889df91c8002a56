use Rattle.std.specs.Prelude.{ℕ, suc, ◌-◌, ◌*◌, ◌/◌, ◌%◌, ◌^◌, Bool, ◌==◌}

-- bits high:low of x, as a number
abbrev pub field : (high low x : ℕ) → ℕ
field high low x = x / 2 ^ low % 2 ^ (suc high - low)

-- bits high:low of x in their places, the rest zero
abbrev pub bits : (high low x : ℕ) → ℕ
bits high low x = field high low x * 2 ^ low

-- bit n of x is set
abbrev pub bit : (n x : ℕ) → Bool
bit n x = field n n x == 1
