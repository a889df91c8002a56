use Rattle.std.proofs.Common.{◌≡◌, ℕ, ◌+◌, ◌-◌, ◌<◌, ◌≤◌, ◌++◌, List, [], ◌∷◌, length, take, drop, Ok, Err, sym, refl, ap, ◌∙◌, ap₂, arith}
use Rattle.std.proofs.lemmas.Bool.Decides.{nat_tests}
use Rattle.std.proofs.lemmas.Bool.{lt-ltb, le-ltb}
use Rattle.std.proofs.lemmas.List.{take_at, drop_at, length-append, length-take-le, length-drop}
use Rattle.spaces.specs.declared.refusal.EditRefusal.TheVariants.{TooManyPatches}
use Rattle.spaces.specs.Patches.{Patches, Ascending, before, from, laid, replaced}
use Rattle.spaces.proofs.Ascents.{replaced_none}
use Rattle.spaces.proofs.Laying.{length_laid}
use Rattle.overlays.specs.Tables.{Around, Replaces}

-- Ascending patches are those before an address, and then those from it on.
module _ (ps : Patches) (asc : Ascending 0 ps) where
  taken : (a : ℕ) → take (length (before a ps)) ps ≡ before a ps
  taken a = ap (take (length (before a ps))) (sym (replaced_none 0 a ps asc)) ∙ take_at (before a ps) (from a ps) (length (before a ps)) refl

  dropped : (a : ℕ) → drop (length (before a ps)) ps ≡ from a ps
  dropped a = ap (drop (length (before a ps))) (sym (replaced_none 0 a ps asc)) ∙ drop_at (before a ps) (from a ps) (length (before a ps)) refl

-- no more lie before an address than before a later one, or than there are
before_more : (a b : ℕ) (ps : Patches) → a ≤ b → length (before a ps) ≤ length (before b ps)
before_more a b [] h = omega arith
before_more a b (p ∷ ps) h = let ih = before_more a b ps h in grind (arith, nat_tests)

before_few : (a : ℕ) (ps : Patches) → length (before a ps) ≤ length ps
before_few a [] = omega arith
before_few a (p ∷ ps) = let ih = before_few a ps in grind (arith, nat_tests)

pub around : (ps : Patches) (first end low high : ℕ) → first ≤ end → low ≡ length (before first ps) → high ≡ length (before end ps) → Around ps first end low high
around ps first end low high le l h = record { begins = l; ends = h; order = omega (arith, before_more first end ps le); within = omega (arith, before_few end ps) }

-- the patches between two places, replaced by others
module _ (ps : Patches) (first end low high : ℕ) (bytes : List ℕ) (asc : Ascending 0 ps) (s : Around ps first end low high) where
  pub replaced_by : (new : Patches) → new ≡ take low ps ++ (laid first bytes ++ drop high ps) → new ≡ replaced first end bytes ps
  replaced_by new e =
      e ∙ ap₂ (λ (i j : ℕ). take i ps ++ (laid first bytes ++ drop j ps)) s.begins s.ends
      ∙ ap₂ (λ (qs rs : Patches). qs ++ (laid first bytes ++ rs)) (taken ps asc first) (dropped ps asc end)

  pub replaced_length : length (replaced first end bytes ps) ≡ low + length bytes + (length ps - high)
  replaced_length =
      ap length (sym (replaced_by _ refl))
      ∙ simp (length-append, length-drop) (omega (arith, length_laid first bytes, length-take-le low ps (omega (arith, s.order, s.within))))

  -- the patches afterwards decide
  pub refuses : 256 < low + length bytes + (length ps - high) → Replaces ps ps first end bytes (Err TooManyPatches)
  refuses k =
      let t = lt-ltb 256 (length (replaced first end bytes ps)) (omega (arith, replaced_length)) in
      record { answer = rw t refl; patches = rw t refl }

  pub replaces : low + length bytes + (length ps - high) ≤ 256 → (new : Patches) → new ≡ take low ps ++ (laid first bytes ++ drop high ps) → Replaces ps new first end bytes (Ok tt)
  replaces k new e =
      let t = le-ltb 256 (length (replaced first end bytes ps)) (omega (arith, replaced_length)) in
      record { answer = rw t refl; patches = rw t (replaced_by new e) }
