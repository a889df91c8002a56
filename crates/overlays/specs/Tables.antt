use Rattle.std.specs.Prelude.{◌≡◌, ℕ, suc, ◌≤◌, List, [], ◌∷◌, length}
use Rattle.std.specs.Option.{unwrap_or}
use Rattle.spaces.specs.Patches.{Patches, LawfulPatches, lookup, before, replaced}
use Rattle.spaces.specs.Edits.{crowded, unless, Outcome, outcome}
use Rattle.overlays.specs.declared.table.PatchTable.{PatchTable}

-- the patches of a table
abbrev pub held : PatchTable → Patches
held t = t.patches.items

-- what a table holds is lawful, by its own field
pub held_lawful : (t : PatchTable) → LawfulPatches (held t)
held_lawful t = t.lawful

-- the places of the patches from first to before end
pub record Around (ps : Patches) (first end low high : ℕ) : Type 0 where
  pub begins : low ≡ length (before first ps)
  pub ends : high ≡ length (before end ps)
  pub order : low ≤ high
  pub within : high ≤ length ps

-- what a replacement answers and leaves: bytes from first on in the place of all patches from there to before end
pub record Replaces (old new : Patches) (first end : ℕ) (bytes : List ℕ) (r : Outcome) : Type 0 where
  pub answer : r ≡ outcome (crowded (replaced first end bytes old))
  pub patches : new ≡ unless (crowded (replaced first end bytes old)) old (replaced first end bytes old)

-- bytes of consecutive addresses, with the patches laid over them
abbrev pub laid_over : Patches → ℕ → List ℕ → List ℕ
laid_over ps a [] = []
laid_over ps a (b ∷ bs) = unwrap_or (lookup ps a) b ∷ laid_over ps (suc a) bs
