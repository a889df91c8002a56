use Rattle.std.specs.Prelude.{◌≡◌, ℕ, ◌+◌, ◌*◌, ◌/◌, ◌≤◌, ◌⊎◌, List, [], ◌∷◌, ◌++◌, length, Err, Result}
use mathlib.Core.List.{Memᴰ}
use Rattle.spaces.specs.declared.fault.Fault.{Fault}
use Rattle.spaces.specs.declared.watch.Watched.{Watched}
use Rattle.spaces.specs.Maps.{raised}
use Rattle.spaces.specs.Walks.{found}
use Rattle.spaces.specs.Piles.{Pile, Lawful, on, walking, shown}
use Rattle.spaces.specs.Trails.{trail}
use Rattle.spaces.proofs.Walking.{walking_lawful}
use Rattle.spaces.specs.Edits.{Edit}
use Rattle.spaces.specs.EditLaws.{Inside}
use Rattle.spaces.specs.CallLaws.{Watches}
use Rattle.paging.specs.declared.entry.Page.{Page}
use Rattle.paging.specs.declared.translation.Translation.{Translation}
use Rattle.paging.specs.Formats.{Format}
use Rattle.paging.specs.Paged.{final, translation, paged}
use Rattle.paging.specs.Translations.{Translates, Fails, Answers}

-- What a paging layer means, and what its calls promise.

abbrev pub paging_on : Format → (cr3 : ℕ) → Pile → Pile
paging_on p cr3 below = on (walking (paged p cr3)) below

-- it keeps the laws of a layer, since it walks
pub paging_lawful : (p : Format) (cr3 : ℕ) (below : Pile) → Lawful below → Lawful (paging_on p cr3 below)
paging_lawful p cr3 below h = walking_lawful (paged p cr3) below h

module _ (p : Format) (cr3 : ℕ) (below : Pile) where
  -- A layer over a pile shows at an address the byte at the final address, and rests on the entry bytes on the way and on
  -- that address; or it shows the fault, and rests on the entry bytes up to it. At most one entry for each level is read.
  pub record Shows (layer : Pile) (a : ℕ) : Type 0 where
    pub page : (reads : List ℕ) (pg : Page) → Translates p (shown below) cr3 a reads pg
        → (shown layer a ≡ raised (shown below (final pg a).address)) × (trail layer (a ∷ []) 1 ≡ reads ++ ((final pg a).address ∷ []))
    pub fault : (reads : List ℕ) (f : Fault) → Fails p (shown below) cr3 a reads f → (shown layer a ≡ Err f) × (trail layer (a ∷ []) 1 ≡ reads)
    pub short : length (trail layer (a ∷ []) 1) ≤ p.levels * p.width + 1

  -- the addresses below on which an address rests
  abbrev pub RestsOn : (a : ℕ) → List ℕ → Type 0
  RestsOn a t =
      ((reads : List ℕ) × (pg : Page) × Translates p (shown below) cr3 a reads pg × (t ≡ reads ++ ((final pg a).address ∷ []))) ⊎ ((f : Fault) × Fails p (shown below) cr3 a t f)

  -- A translated address: the answer is the walk's, which is the manual's; all addresses of the page translate alike, by
  -- the same entry bytes; and the layer shows at every address what lies there.
  pub record Translated (layer : Pile) (a : ℕ) (r : Result Translation Fault) : Type 0 where
    pub walks : r ≡ found a (translation p cr3 a) (shown below)
    pub answers : Answers p (shown below) cr3 a r
    pub alike : (reads : List ℕ) (pg : Page) → Translates p (shown below) cr3 a reads pg → (b : ℕ) → b / pg.size ≡ a / pg.size → Translates p (shown below) cr3 b reads pg
    pub shows : (b : ℕ) → Shows layer b

  -- An edit right below while one address is watched: off the addresses on which it rests, the edit changes nothing there.
  pub record EditsBelow (old new : Pile) (e : Edit) (a : ℕ) (w : Watched) : Type 0 where
    pub watches : Watches old new 1 e a w
    pub kept : (t : List ℕ) → RestsOn a t → ((x : ℕ) → Memᴰ x t → Inside e x → ⊥) → w.after ≡ w.before
