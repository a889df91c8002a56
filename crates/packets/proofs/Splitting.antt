use Rattle.std.proofs.Common.{◌≡◌, ℕ, ◌+◌, ◌≤◌, cond, not, Bool, true, false, List, [], ◌∷◌, ◌++◌, length, take, drop, Some, None, Option, ◌==◌, ap, refl, arith}
use Rattle.std.specs.List.{position, prefix_len}
use Rattle.std.specs.Option.{option_map}
use Rattle.std.proofs.lemmas.Bool.Decides.{nat_tests}
use Rattle.packets.specs.Splits.{with_first, split_once, Lacks}

prefix_more : (p : ℕ → Bool) (b : ℕ) (bs : List ℕ) → prefix_len p (b ∷ bs) ≡ cond (p b) (1 + prefix_len p bs) 0
prefix_more p b bs = refl

-- a list is split around the first place that has the mark
pub split_at_place : (mark : ℕ) (bs : List ℕ) → split_once mark bs ≡ option_map (λ i. (take i bs, drop (i + 1) bs)) (position (λ b. b == mark) bs)
split_at_place mark [] = refl
split_at_place mark (b ∷ bs) = grind (arith, nat_tests, split_at_place mark bs, prefix_more (λ x. not (x == mark)) b bs)

-- what a split says of a list
abbrev pub Split : ℕ → List ℕ → Option (List ℕ × List ℕ) → Type 0
Split mark bs None = Lacks mark bs
Split mark bs (Some (front, rest)) = Lacks mark front × (bs ≡ front ++ (mark ∷ rest))

pub splits : (mark : ℕ) (bs : List ℕ) → Split mark bs (split_once mark bs)
splits mark [] = tt
splits mark (b ∷ bs) = step (b == mark) refl (split_once mark bs) (splits mark bs)
  where
    step : (t : Bool) → (b == mark) ≡ t → (w : Option (List ℕ × List ℕ)) → Split mark bs w → Split mark (b ∷ bs) (cond t (Some ([], bs)) (with_first b w))
    step true q w s = (tt, grind (arith, nat_tests))
    step false q None s = (grind (arith, nat_tests), s)
    step false q (Some p) s = ((grind (arith, nat_tests), s.0), ap (λ xs. b ∷ xs) s.1)

-- a list with a mark is split at the first, and one without it is not
pub split_found : (mark : ℕ) (front rest : List ℕ) → Lacks mark front → split_once mark (front ++ (mark ∷ rest)) ≡ Some (front, rest)
split_found mark [] rest h = grind (arith, nat_tests)
split_found mark (b ∷ bs) rest h = grind (arith, nat_tests, split_found mark bs rest)

pub split_none : (mark : ℕ) (bs : List ℕ) → Lacks mark bs → split_once mark bs ≡ None
split_none mark [] h = refl
split_none mark (b ∷ bs) h = grind (arith, nat_tests, split_none mark bs)

-- a front without a mark lies before the first mark
abbrev pub Behind : List ℕ → Option (List ℕ × List ℕ) → Type 0
Behind front None = Unit {0}
Behind front (Some p) = length front ≤ length p.0

behind_one : (front : List ℕ) (b : ℕ) (w : Option (List ℕ × List ℕ)) → Behind front w → Behind (b ∷ front) (with_first b w)
behind_one front b None h = tt
behind_one front b (Some p) h = omega arith

pub split_behind : (mark : ℕ) (front rest : List ℕ) → Lacks mark front → Behind front (split_once mark (front ++ rest))
split_behind mark [] rest h = any (split_once mark rest)
  where
    any : (w : Option (List ℕ × List ℕ)) → Behind [] w
    any None = tt
    any (Some p) = omega arith
split_behind mark (b ∷ bs) rest h = let e : (b == mark) ≡ false = grind (arith, nat_tests) in rw e (behind_one bs b (split_once mark (bs ++ rest)) (split_behind mark bs rest h.1))
