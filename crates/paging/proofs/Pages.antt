use Rattle.std.proofs.Common.{◌≡◌, ℕ, ◌+◌, ◌-◌, ◌*◌, ◌/◌, ◌%◌, ◌^◌, ◌<◌, ◌≤◌, List, length, Ok, Err, Option, refl, ap, ◌∙◌, arith}
use Rattle.std.proofs.Math.Nat.{mod-eq-sub-div-mul}
use Rattle.std.proofs.lemmas.Nat.{div-mul-add, div-add-mod', mod_below}
use Rattle.spaces.specs.declared.fault.Fault.{Fault}
use Rattle.spaces.specs.Maps.{raised}
use Rattle.spaces.specs.Reads.{Fills}
use Rattle.spaces.specs.Piles.{Pile, shown}
use Rattle.spaces.proofs.Filling.{filled_alike}
use Rattle.paging.specs.declared.translation.Translation.{Translation}
use Rattle.paging.specs.Formats.{Format, Sound}
use Rattle.paging.specs.Layers.{paging_on, Translated}
use Rattle.paging.proofs.Ways.{leads_placed}

-- What lies on one page: all its addresses translate alike, so a part of it is filled at its final address.

-- addresses up to a page's end are on that page, each as far behind its base
same_page : (a size i : ℕ) → 0 < size → i < size - a % size → ((a + i) / size ≡ a / size) × ((a + i) % size ≡ a % size + i)
same_page a size i z h =
    let e : a + i ≡ a / size * size + (a % size + i) = omega (arith, div-add-mod' a size) in
    let d : (a + i) / size ≡ a / size = ap (λ x. x / size) e ∙ div-mul-add (a / size) size (a % size + i) (omega arith) in
    (d, mod-eq-sub-div-mul (a + i) size ∙ ap (λ x. a + i - x * size) d ∙ omega (arith, div-add-mod' a size))

module _ (p : Format) (cr3 : ℕ) (below : Pile) where
  abbrev layer : Pile
  layer = paging_on p cr3 below

  -- what a translation tells of its page, from its address on
  pub record OnPage (a : ℕ) (t : Translation) : Type 0 where
    pub left : a % t.size < t.size
    pub low : t.address + (t.size - a % t.size) ≤ 2 ^ 64
    pub shows : (i : ℕ) → i < t.size - a % t.size → shown layer (a + i) ≡ raised (shown below (t.address + i))

  pub on_page : Sound p → (a : ℕ) (t : Translation) → Translated p cr3 below layer a (Ok t) → OnPage a t
  on_page sound a t h =
      let (reads, pg, w, e) = h.answers.page t refl in
      let placed = leads_placed p (shown below) a sound w.chain (omega arith) in
      let rest = mod_below a pg.size placed.some in
      rw e (record {
        left = rest;
        low = let b = placed.base in let s = placed.size in omega arith;
        shows = λ i k.
            let same = same_page a pg.size i placed.some k in
            ((h.shows (a + i)).page reads pg (h.alike reads pg w (a + i) same.0)).0 ∙ ap (λ x. raised (shown below (pg.base + x))) same.1 ∙ ap (λ x. raised (shown below x)) (omega arith);
      })

  -- an address without a translation shows what is missing
  pub no_page : (a : ℕ) (f : Fault) → Translated p cr3 below layer a (Err f) → shown layer a ≡ Err f
  no_page a f h = let (reads, t) = h.answers.fault f refl in ((h.shows a).fault reads f t).0

  -- a part of the page that the space below fills
  pub page_filled : (a : ℕ) (t : Translation) → OnPage a t → (part new : List ℕ) (r : ℕ × Option Fault) → length part ≤ t.size - a % t.size → a + length part ≤ 2 ^ 64
      → Fills (λ x. raised (shown below x)) t.address part new r → Fills (shown layer) a part new r
  page_filled a t o part new r h k f = filled_alike (shown layer) (λ x. raised (shown below x)) a t.address part new r (λ i n. o.shows i (omega arith)) (let l = o.low in omega arith) f
