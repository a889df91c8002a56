use Rattle.std.proofs.Common.{◌≡◌, ◌≤◌, ◌⊎◌, [], ◌∷◌, length, refl, inl, inr, arith}
use Rattle.sessions.specs.Histories.{Event, History, Earlier, same, before}

-- what a history was before its newest event, or the whole
pub earlier_cases : {k h : History} {e : Event} → Earlier k (e ∷ h) → (k ≡ e ∷ h) ⊎ Earlier k h
earlier_cases same = inl refl
earlier_cases (before s) = inr s

pub nothing_earlier : {k : History} {e : Event} → Earlier (e ∷ k) [] → ⊥
nothing_earlier s = elim s [ ]

pub earlier_shorter : {k h : History} → Earlier k h → length k ≤ length h
earlier_shorter same = omega arith
earlier_shorter (before s) = let t = earlier_shorter s in omega arith
