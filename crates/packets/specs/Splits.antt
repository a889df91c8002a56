use Rattle.std.specs.Prelude.{ℕ, ◌≢◌, if◌then◌else◌, List, [], ◌∷◌, Some, None, Option, ◌==◌}
use Rattle.std.specs.List.{AllByRecursion}

-- the bytes before the first mark, and those behind it, or none where there is no mark
abbrev pub with_first : ℕ → Option (List ℕ × List ℕ) → Option (List ℕ × List ℕ)
with_first b None = None
with_first b (Some (front, rest)) = Some (b ∷ front, rest)

abbrev pub split_once : ℕ → List ℕ → Option (List ℕ × List ℕ)
split_once mark [] = None
split_once mark (b ∷ bs) = if b == mark then Some ([], bs) else with_first b (split_once mark bs)

-- no byte is the mark
abbrev pub Lacks : ℕ → List ℕ → Type 0
Lacks mark bytes = AllByRecursion (λ b. b ≢ mark) bytes
