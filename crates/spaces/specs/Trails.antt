use Rattle.std.specs.Prelude.{ℕ, zero, suc, List, [], ◌∷◌}
use Rattle.std.specs.List.{flat_map}
use Rattle.spaces.specs.Maps.{Map}
use Rattle.spaces.specs.Reads.{through}
use Rattle.spaces.specs.Piles.{Layer, rule, Pile, composed, shown}

-- at depth 0 the addresses themselves, at each depth further the trails of those one depth above, joined
abbrev pub trail_of : List Layer → Map → ℕ → List ℕ → List ℕ
trail_of ls m zero xs = xs
trail_of [] m (suc k) xs = []
trail_of (l ∷ ls) m (suc k) xs = trail_of ls m k (flat_map (λ a. (rule l (composed ls m) a).1) xs)

-- a read's trail at a depth
abbrev pub trail : Pile → List ℕ → ℕ → List ℕ
trail p xs k = trail_of p.layers p.base k (through (shown p) xs)
