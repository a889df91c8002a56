use Rattle.std.specs.Prelude.{ℕ, List, [], ◌∷◌, Ok, Err, Result}
use Rattle.spaces.specs.declared.fault.Fault.{Fault}
use Rattle.spaces.specs.Maps.{Answer, Map, own, climbed}
use Rattle.spaces.specs.Rules.{Rule, LawfulRule}

-- What a layer does for one address: give a result, fail with a cause, or read a byte below and go on.
-- A fault below is passed up and ends the walk.
pub data Walk (X : Type 0) : Type 0 where
  give : X → Walk X
  fail : (cause : ℕ) → Walk X
  ask : ℕ → (ℕ → Walk X) → Walk X

-- one walk, and another from its result
abbrev pub after : {X Y : Type 0} → Walk X → (X → Walk Y) → Walk Y
after (give v) k = k v
after (fail c) k = fail c
after (ask x j) k = ask x (λ b. after (j b) k)

-- from the answer below at x on
abbrev pub asked : {X : Type 0} → Answer → ℕ → (ℕ → Result X Fault × List ℕ) → Result X Fault × List ℕ
asked (Ok b) x k = ((k b).0, x ∷ (k b).1)
asked (Err f) x k = (Err (climbed f), x ∷ [])

-- what a walk for an address finds in a map below, and the addresses that it read there
abbrev pub walked : {X : Type 0} → ℕ → Walk X → Map → Result X Fault × List ℕ
walked a (give v) m = (Ok v, [])
walked a (fail c) m = (Err (own a c), [])
walked a (ask x k) m = asked (m x) x (λ b. walked a (k b) m)

abbrev pub found : {X : Type 0} → ℕ → Walk X → Map → Result X Fault
found a w m = (walked a w m).0

-- the rule of a layer that walks: its trail is what it reads
abbrev pub rule_of : (ℕ → Walk ℕ) → Rule
rule_of w m a = walked a (w a) m

-- every layer described by a walk keeps both laws
abbrev pub EveryWalkIsLawful : Type 0
EveryWalkIsLawful = (w : ℕ → Walk ℕ) → LawfulRule (rule_of w)
