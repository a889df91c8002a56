use Rattle.std.specs.Prelude.{◌≡◌, ℕ, ◌-◌, ◌≤◌, List, ◌∷◌, ◌++◌, length, take, replicate}
use Rattle.exports.specs.declared.sent.Sent.{Sent}

-- What a writer into lent memory holds: the bytes sent, behind the name of the memory and its length. So whoever writes by it is
-- known to leave it that memory.
abbrev pub held : Sent → List ℕ
held s = s.room.ghost_name ∷ length s.room.now ∷ take s.count s.room.now

-- these bytes stand in front of a buffer, and zeros behind them
pub record InFront (sent before after : List ℕ) : Type 0 where
  pub fits : length sent ≤ length before
  pub bytes : after ≡ sent ++ replicate (length before - length sent) 0
