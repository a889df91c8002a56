use Rattle.std.proofs.Common.{◌≡◌, ℕ, [], ◌∷◌, Ok, Err, Option, refl, ap, ◌∙◌}
use Rattle.spaces.specs.Maps.{Answer, raised}
use Rattle.spaces.specs.Rules.{LawfulRule}
use Rattle.spaces.proofs.Walking.{walk_lawful}
use Rattle.spaces.specs.Patches.{lookup}
use Rattle.spaces.specs.Piles.{Layer, plain, overlay, patched, rule, LawfulLayer}
use Rattle.spaces.specs.Walks.{give, ask, walked}
use Rattle.spaces.specs.PileLaws.{EveryOverlayShowsItsPatches}

-- an overlay's walk, patched and not
pub shows_patches : EveryOverlayShowsItsPatches
shows_patches ps = record {
  patched = λ m a b e. ap (λ (o : Option ℕ). walked a (patched o a) m) e;
  other = λ m a e. ap (λ (o : Option ℕ). walked a (patched o a) m) e ∙ below (m a) a;
}
  where
    below : (w : Answer) (a : ℕ) → walked a (ask a give) (λ _. w) ≡ (raised w, a ∷ [])
    below (Ok b) a = refl
    below (Err f) a = refl

-- overlays keep the laws, since they are walks
pub layer_lawful : (l : Layer) → LawfulLayer l → LawfulRule (rule l)
layer_lawful (plain r) h = h
layer_lawful (overlay ps) h = walk_lawful (λ a. patched (lookup ps a) a)
