use Rattle.std.specs.Prelude.{ℕ, ◌+◌, ◌%◌, ◌^◌, cond, ◌&&◌, Ok, Err, Result, nat_lt}
use Rattle.spaces.specs.Walks.{Walk, give, fail, ask}

abbrev pub ramp : ℕ → ℕ → Result ℕ ℕ
ramp length a = cond (nat_lt a length) (Ok (a % 256)) (Err 0x77)

abbrev pub window : ℕ → ℕ → ℕ → Walk ℕ
window start length a = cond (nat_lt a length && nat_lt (start + a) (2 ^ 64)) (ask (start + a) give) (fail 0x78)
