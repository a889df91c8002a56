use Rattle.std.proofs.Common.{◌≡◌, ℕ, zero, suc, List, [], ◌∷◌, map, Ok, Err, refl, arith, ap, ◌∙◌}
use mathlib.Core.List.Memᴰ
use mathlib.Core.List.{Memᴰ}
use Rattle.std.specs.List.{flat_map}
use Rattle.spaces.specs.Maps.{Answer, Map}
use Rattle.spaces.specs.Reads.{got, then_got, then_through, through}
use Rattle.spaces.specs.Rules.{Agree}
use Rattle.spaces.specs.Piles.{Layer, rule, Pile, composed, shown, LawfulLayer, LawfulLayers}
use Rattle.spaces.specs.Trails.{trail_of}
use Rattle.spaces.specs.Edits.{patches_of, patches_at, patch_in}
use Rattle.spaces.specs.EditLaws.{bare_layer}
use Rattle.spaces.specs.PileLaws.{EveryReadRestsOnItsTrail}
use Rattle.spaces.proofs.Overlaid.{layer_lawful}

-- a trail is among the joined ones
joined_in : (f : ℕ → List ℕ) (xs : List ℕ) (a x : ℕ) → Memᴰ a xs → Memᴰ x (f a) → Memᴰ x (flat_map f xs)
joined_in f [] a x h k = absurd (Memᴰ.not-nil h)
joined_in f (y ∷ ys) a x (Memᴰ.head e) k = rw (← e) (Memᴰ.append_left (flat_map f ys) k)
joined_in f (y ∷ ys) a x (Memᴰ.tail t) k = Memᴰ.append_right (f y) (joined_in f ys a x t k)

joined_same : (f g : ℕ → List ℕ) (xs : List ℕ) → ((a : ℕ) → Memᴰ a xs → f a ≡ g a) → flat_map f xs ≡ flat_map g xs
joined_same f g [] h = refl
joined_same f g (a ∷ xs) h = rw (h a (Memᴰ.head refl), joined_same f g xs (λ x t. h x (Memᴰ.tail t)))

-- layers that differ in patches alone, and not at an address, over maps that agree along the trail there
same_rule : (l n : Layer) → bare_layer l ≡ bare_layer n → LawfulLayer l → (below other : Map) (a : ℕ) → Agree (rule l below a).1 below other
    → patch_in (patches_of l) a ≡ patch_in (patches_of n) a → rule l below a ≡ rule n other a
same_rule l n q law below other a h e = grind (arith, (layer_lawful l law).footing below other a h)

-- layers on the same bottom
module _ (m : Map) where
  abbrev PatchesAgree : List Layer → List Layer → List ℕ → Type 0
  PatchesAgree ls ks xs = (k a : ℕ) → Memᴰ a (trail_of ls m k xs) → patch_in (patches_at ls k) a ≡ patch_in (patches_at ks k) a

  pub record Rests (ls ks : List Layer) (xs : List ℕ) : Type 0 where
    pub agree : Agree xs (composed ls m) (composed ks m)
    pub trails : (k : ℕ) → trail_of ls m k xs ≡ trail_of ks m k xs

  -- one layer more, where its rule gives the same at each address
  on_top : (l n : Layer) (ls ks : List Layer) (xs : List ℕ)
      → ((a : ℕ) → Memᴰ a xs → rule l (composed ls m) a ≡ rule n (composed ks m) a)
      → Rests ls ks (flat_map (λ a. (rule l (composed ls m) a).1) xs) → Rests (l ∷ ls) (n ∷ ks) xs
  on_top l n ls ks xs h s = record { agree = λ a t. let e = h a t in cc; trails = go }
    where
      go : (k : ℕ) → trail_of (l ∷ ls) m k xs ≡ trail_of (n ∷ ks) m k xs
      go zero = refl
      go (suc k) = s.trails k ∙ ap (trail_of ks m k) (joined_same _ _ xs (λ a t. ap (λ (w : Answer × List ℕ). w.1) (h a t)))

  rests : (ls ks : List Layer) → map bare_layer ls ≡ map bare_layer ks → LawfulLayers ls → (xs : List ℕ) → PatchesAgree ls ks xs → Rests ls ks xs
  rests [] [] q law xs h = record { agree = λ a t. refl; trails = λ k. refl }
  rests [] (n ∷ ks) q law xs h = cc
  rests (l ∷ ls) [] q law xs h = cc
  rests (l ∷ ls) (n ∷ ks) q law xs h =
      let heads : bare_layer l ≡ bare_layer n = cc in
      let tails : map bare_layer ls ≡ map bare_layer ks = cc in
      let below = rests ls ks tails law.1 (flat_map (λ a. (rule l (composed ls m) a).1) xs) (λ k. h (suc k)) in
      on_top l n ls ks xs (λ a t. same_rule l n heads law.0 (composed ls m) (composed ks m) a (λ x u. below.agree x (joined_in (λ a. (rule l (composed ls m) a).1) xs a x t u)) (h 0 a t)) below

-- a read stops at the same address in maps that agree through it

then_first : (w : Answer) (a : ℕ) (rest : List ℕ) → Memᴰ a (then_through w a rest)
then_first (Ok b) a rest = Memᴰ.head refl
then_first (Err f) a rest = Memᴰ.head refl

read_same : (m n : Map) (xs : List ℕ) → Agree (through m xs) m n → (got m xs ≡ got n xs) × (through m xs ≡ through n xs)
read_same m n [] h = (refl, refl)
read_same m n (a ∷ xs) h = let e = h a (then_first (m a) a (through m xs)) in rw (← e) (step (m a) h (read_same m n xs))
  where
    step : (w : Answer) → Agree (then_through w a (through m xs)) m n → (Agree (through m xs) m n → (got m xs ≡ got n xs) × (through m xs ≡ through n xs))
        → (then_got w (got m xs) ≡ then_got w (got n xs)) × (then_through w a (through m xs) ≡ then_through w a (through n xs))
    step (Ok b) h ih = let t = ih (λ x u. h x (Memᴰ.tail u)) in (cc, cc)
    step (Err f) h ih = (refl, refl)

pub rests_on_trail : EveryReadRestsOnItsTrail
rests_on_trail p q xs d =
    let m = p.pile.base in
    let bases : m ≡ q.base = ap (λ (b : Pile). b.base) d.layers in
    let s = rests m p.pile.layers q.layers (ap (λ (b : Pile). b.layers) d.layers) p.lawful.layers (through (shown p.pile) xs) d.patches in
    let t = read_same (shown p.pile) (composed q.layers m) xs s.agree in
    record { answer = cc; rests = λ k. let u = s.trails k in cc }
