use Rattle.std.proofs.Common.{◌≡◌, ℕ, ◌+◌, ◌*◌, ◌≤◌, List, [], ◌∷◌, ◌++◌, length, Ok, Err, Result, subst, sym, ◌∙◌, inl, inr, arith, length-append}
use mathlib.Core.List.{Memᴰ}
use Rattle.spaces.specs.declared.fault.Fault.{Fault}
use Rattle.spaces.specs.declared.watch.Watched.{Watched}
use Rattle.spaces.specs.Maps.{Answer, raised}
use Rattle.spaces.specs.Walks.{give, walked, found}
use Rattle.spaces.specs.Piles.{Pile, walking, shown}
use Rattle.spaces.specs.Trails.{trail}
use Rattle.spaces.specs.Edits.{Edit}
use Rattle.spaces.specs.CallLaws.{Watches}
use Rattle.spaces.proofs.Sequences.{found_after}
use Rattle.spaces.proofs.Below.{trail_below}
use Rattle.paging.specs.declared.entry.Page.{Page}
use Rattle.paging.specs.declared.translation.Translation.{Translation}
use Rattle.paging.specs.Formats.{Format, Sound}
use Rattle.paging.specs.Paged.{page_of, final, translation, paged}
use Rattle.paging.specs.Translations.{Translates, Fails, unlawful, stops}
use Rattle.paging.specs.Layers.{paging_on, Shows, RestsOn, Translated, EditsBelow}
use Rattle.paging.proofs.Lengths.{leads_long, stops_long}
use Rattle.paging.proofs.Ways.{leads_alike}
use Rattle.paging.proofs.Answering.{byte_found, byte_missing, Outcome, outcome, answers}

-- The layer shows what the manual's translation leads to, and rests on what is read on the way.

module _ (p : Format) (cr3 : ℕ) (below : Pile) where
  abbrev layer : Pile
  layer = paging_on p cr3 below

  abbrev Seen : ℕ → Answer → List ℕ → Type 0
  Seen a v t = (shown layer a ≡ v) × (trail layer (a ∷ []) 1 ≡ t)

  -- what the walk finds and reads is what the layer shows and rests on
  seen : (a : ℕ) (v : Answer) (t : List ℕ) → walked a (paged p cr3 a) (shown below) ≡ (v, t) → Seen a v t
  seen a v t q = (grind arith, grind (arith, trail_below (walking (paged p cr3)) below a))

  page_seen : (a : ℕ) (reads : List ℕ) (pg : Page) → Translates p (shown below) cr3 a reads pg
      → Seen a (raised (shown below (final pg a).address)) (reads ++ ((final pg a).address ∷ []))
  page_seen a reads pg t = seen a _ _ (byte_found p (shown below) cr3 a t)

  fault_seen : (a : ℕ) (reads : List ℕ) (f : Fault) → Fails p (shown below) cr3 a reads f → Seen a (Err f) reads
  fault_seen a reads f t = seen a _ _ (byte_missing p (shown below) cr3 a t)

  rests_on_trail : (a : ℕ) (t : List ℕ) → RestsOn p cr3 below a t → trail layer (a ∷ []) 1 ≡ t
  rests_on_trail a t (inl (reads, pg, w, q)) = (page_seen a reads pg w).1 ∙ sym q
  rests_on_trail a t (inr (f, w)) = (fault_seen a t f w).1

  pub edits_below : (new : Pile) (e : Edit) (a : ℕ) (w : Watched) → Watches layer new 1 e a w → EditsBelow p cr3 below layer new e a w
  edits_below new e a w h = record {
    watches = h;
    kept = λ t rests off. h.kept (λ x i touched. off x (subst (λ (l : List ℕ). Memᴰ x l) (rests_on_trail a t rests) i) (grind arith));
  }

  module _ (sound : Sound p) where
    pub shows : (a : ℕ) → Shows p cr3 below layer a
    shows a = record { page = page_seen a; fault = fault_seen a; short = by (outcome p (shown below) cr3 a sound) }
      where
        by : Outcome p (shown below) cr3 a → length (trail layer (a ∷ []) 1) ≤ p.levels * p.width + 1
        by (inl (reads, pg, t)) = rw ((page_seen a reads pg t).1) (omega (arith, length-append {A = ℕ}, leads_long p (shown below) a t.chain))
        by (inr (reads, f, unlawful q)) = rw ((fault_seen a reads f (unlawful q)).1) (omega arith)
        by (inr (reads, f, stops q c)) = rw ((fault_seen a reads f (stops q c)).1) (omega (arith, stops_long p (shown below) a c))

    -- a call that walks to a page translates

    module _ (a : ℕ) where
      translated : (r : Result Translation Fault) → r ≡ found a (translation p cr3 a) (shown below) → Translated p cr3 below layer a r
      translated r e = record {
        walks = e;
        answers = answers p (shown below) cr3 a sound r e;
        alike = λ reads pg t b s. let (same, chain) = leads_alike p (shown below) a sound b t.chain (omega arith) (sym s) in record { lawful = sym same.0 ∙ t.lawful; chain = chain };
        shows = shows;
      }

      pub page_missing : (r : Result Translation Fault) (f : Fault) → r ≡ Err f → Err f ≡ found a (page_of p cr3 a) (shown below) → Translated p cr3 below layer a r
      page_missing r f e q = translated r (grind (arith, found_after a (page_of p cr3 a) (λ pg. give (final pg a)) (shown below)))

      pub page_there : (pg : Page) (t : Translation) → t ≡ final pg a → Ok pg ≡ found a (page_of p cr3 a) (shown below) → Translated p cr3 below layer a (Ok t)
      page_there pg t e q = translated (Ok t) (grind (arith, found_after a (page_of p cr3 a) (λ pg. give (final pg a)) (shown below)))
