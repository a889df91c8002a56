use Rattle.std.proofs.Common.{◌≡◌, ℕ, [], ◌∷◌, append-nil, arith}
use Rattle.spaces.specs.Piles.{Layer, rule, Pile, on, shown}
use Rattle.spaces.specs.Trails.{trail}

-- right below its top layer, one address rests on that layer's trail
pub trail_below : (l : Layer) (below : Pile) (a : ℕ) → trail (on l below) (a ∷ []) 1 ≡ (rule l (shown below) a).1
trail_below l below a = grind (arith, append-nil (rule l (shown below) a).1)
