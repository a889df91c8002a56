use Rattle.std.proofs.Common.{◌≡◌, ℕ, zero, suc, List, [], ◌∷◌, map, Some, None, refl, arith}
use Rattle.std.proofs.lemmas.Bool.Decides.{nat_tests}
use Rattle.spaces.specs.Patches.{Patches, LawfulPatches}
use Rattle.spaces.specs.Piles.{Layer, LawfulLayers}
use Rattle.spaces.specs.Edits.{Edit, edit, patches_at, judged, refusal, edit_at, unless}
use Rattle.spaces.specs.EditLaws.{bare_layer, EveryEditChangesItsAddressesAlone}
use Rattle.spaces.proofs.Editing.{lawful_edit, edit_laws}

edited_there : (ls : List Layer) (k : ℕ) (e : Edit) (ps : Patches) → patches_at ls k ≡ Some ps → patches_at (edit_at ls k e) k ≡ Some (edit e ps)
edited_there [] k e ps q = cc
edited_there (l ∷ ls) zero e ps q = grind arith
edited_there (l ∷ ls) (suc k) e ps q = edited_there ls k e ps q

edited_elsewhere : (ls : List Layer) (k j : ℕ) (e : Edit) → (j ≡ k → ⊥) → patches_at (edit_at ls k e) j ≡ patches_at ls j
edited_elsewhere [] k j e n = refl
edited_elsewhere (l ∷ ls) zero zero e n = grind arith
edited_elsewhere (l ∷ ls) zero (suc j) e n = refl
edited_elsewhere (l ∷ ls) (suc k) zero e n = refl
edited_elsewhere (l ∷ ls) (suc k) (suc j) e n = edited_elsewhere ls k j e (grind arith)

bare_edited : (ls : List Layer) (k : ℕ) (e : Edit) → map bare_layer (edit_at ls k e) ≡ map bare_layer ls
bare_edited [] k e = refl
bare_edited (l ∷ ls) zero e = grind arith
bare_edited (l ∷ ls) (suc k) e = let ih = bare_edited ls k e in cc

lawful_there : (ls : List Layer) (k : ℕ) (ps : Patches) → LawfulLayers ls → patches_at ls k ≡ Some ps → LawfulPatches ps
lawful_there [] k ps h q = cc
lawful_there (l ∷ ls) zero ps h q = grind arith
lawful_there (l ∷ ls) (suc k) ps h q = lawful_there ls k ps h.1 q

lawful_at : (ls : List Layer) (k : ℕ) (e : Edit) → judged (patches_at ls k) e ≡ None → LawfulLayers ls → LawfulLayers (edit_at ls k e)
lawful_at [] k e q h = tt
lawful_at (l ∷ ls) zero e q h = grind (arith, lawful_edit e)
lawful_at (l ∷ ls) (suc k) e q h = (h.0, lawful_at ls k e q h.1)

pub pile_edit_laws : EveryEditChangesItsAddressesAlone
pile_edit_laws p k e = let ls = p.pile.layers in record {
  overlay = λ ps q. (
    unless (refusal p.pile k e) ps (edit e ps),
    grind (arith, edited_there ls k e ps q),
    rw q (edit_laws e ps (lawful_there ls k ps p.lawful.layers q)),
  );
  none = λ q. record {
    same = grind (arith, nat_tests);
    past = λ h. grind (arith, nat_tests);
    refused = λ h. grind (arith, nat_tests);
  };
  elsewhere = λ j n. grind (arith, edited_elsewhere ls k j e n);
  rest = grind (arith, bare_edited ls k e);
  lawful = record { layers = grind (arith, lawful_at ls k e); base = p.lawful.base };
}
