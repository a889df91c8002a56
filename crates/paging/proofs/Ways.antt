use Rattle.std.proofs.Common.{◌≡◌, ℕ, zero, suc, ◌/◌, ◌<◌, ◌≤◌, ◌⊎◌, List, [], ◌∷◌, Some, None, Ok, Err, Option, refl, inl, inr, append-nil, arith}
use Rattle.spaces.specs.declared.fault.Fault.{Fault}
use Rattle.spaces.specs.Maps.{Map}
use Rattle.spaces.specs.Reads.{got, through}
use Rattle.spaces.specs.Walks.{walked}
use Rattle.spaces.proofs.Sequences.{past, after_there, after_missing}
use Rattle.endian.specs.Little.{little_endian}
use Rattle.paging.specs.declared.entry.Page.{Page}
use Rattle.paging.specs.declared.entry.Target.{Target}
use Rattle.paging.specs.declared.entry.Target.TheVariants.{Table, Leaf}
use Rattle.paging.specs.declared.entry.Entry.{Entry}
use Rattle.paging.specs.Formats.{Format, Alike, Placed, SoundTarget, SoundEntry, Sound}
use Rattle.paging.specs.Paged.{entry_of, follow, descend}
use Rattle.paging.specs.Translations.{entry_bytes, EntryIs, Leads, Stops}
use Rattle.paging.specs.Translations as rel
use Rattle.paging.proofs.Entries.{entry_walked}

-- The manual's chains and the walk are one: what a chain leads to is what the walk finds and reads, and from every
-- table there is a chain to a page or to what is missing.

-- where all bytes are there, all are read
all_read : (m : Map) (xs : List ℕ) → (got m xs).fault ≡ None → through m xs ≡ xs
all_read m [] e = refl
all_read m (x ∷ xs) e = grind (arith, all_read m xs)

module _ (p : Format) (m : Map) (a : ℕ) where
  -- on from an entry that is present
  present_walked : (l table : ℕ) (e : Entry) (t : Target) → EntryIs p m a (suc l) table (Some e) → e.target ≡ t
      → walked a (descend p a (suc l) table) m ≡ past (entry_bytes p (suc l) table a) (walked a (follow t (descend p a l)) m)
  present_walked l table e t (raw, h, q) s =
      rw (← s) (after_there a (entry_of p a (suc l) table) (λ e. follow e.target (descend p a l)) m e _ (grind (arith, entry_walked p m a (suc l) table, all_read m (entry_bytes p (suc l) table a))))

  pub leads_walked : {l table : ℕ} {reads : List ℕ} {pg : Page} → Leads p m a l table reads pg → walked a (descend p a l table) m ≡ (Ok pg, reads)
  leads_walked (rel.Leads.page h s) = rw (present_walked _ _ _ _ h s, append-nil)
  leads_walked (rel.Leads.next h s c) = rw (present_walked _ _ _ _ h s, leads_walked c)

  -- where an entry is missing, so is all that comes after it
  stop : (l table : ℕ) (f : Fault) (reads : List ℕ) → walked a (entry_of p a (suc l) table) m ≡ (Err f, reads) → walked a (descend p a (suc l) table) m ≡ (Err f, reads)
  stop l table f reads = after_missing a (entry_of p a (suc l) table) (λ e. follow e.target (descend p a l)) m f reads

  pub stops_walked : {l table : ℕ} {reads : List ℕ} {f : Fault} → Stops p m a l table reads f → walked a (descend p a l table) m ≡ (Err f, reads)
  stops_walked (rel.Stops.missing {l = l} {table = table} h) = stop l table _ _ (grind (arith, entry_walked p m a (suc l) table))
  stops_walked (rel.Stops.absent {l = l} {table = table} h) = stop l table _ _ (grind (arith, entry_walked p m a (suc l) table, all_read m (entry_bytes p (suc l) table a)))
  stops_walked (rel.Stops.next h s c) = rw (present_walked _ _ _ _ h s, stops_walked c)

  -- a way from a table of a level on, to a page or to what is missing
  abbrev pub Way : (l table : ℕ) → Type 0
  Way l table = ((reads : List ℕ) × (pg : Page) × Leads p m a l table reads pg) ⊎ ((reads : List ℕ) × (f : Fault) × Stops p m a l table reads f)

  pub way : Sound p → (l table : ℕ) → 0 < l → l ≤ p.levels → Way l table
  way sound zero table h k = absurd (omega arith)
  way sound (suc l) table h k = step (got m (entry_bytes p (suc l) table a)).fault refl (λ t n. way sound l t n (omega arith))
    where
      to : (e : Entry) (t : Target) → EntryIs p m a (suc l) table (Some e) → e.target ≡ t → SoundTarget p (suc l) t → ((t : ℕ) → 0 < l → Way l t) → Way (suc l) table
      to e (Leaf pg) h s leads rest = inl (_, pg, rel.Leads.page h s)
      to e (Table t) h s leads rest = on (rest t (omega (arith, leads.1)))
        where
          on : Way l t → Way (suc l) table
          on (inl c) = inl (_, c.1, rel.Leads.next h s c.2)
          on (inr c) = inr (_, c.1, rel.Stops.next h s c.2)

      by : (o : Option Entry) → EntryIs p m a (suc l) table o → SoundEntry p (suc l) o → ((t : ℕ) → 0 < l → Way l t) → Way (suc l) table
      by None h leads rest = inr (_, _, rel.Stops.absent h)
      by (Some e) h leads rest = to e e.target h refl leads rest

      step : (o : Option Fault) → (got m (entry_bytes p (suc l) table a)).fault ≡ o → ((t : ℕ) → 0 < l → Way l t) → Way (suc l) table
      step None q rest = by _ (_, (_, grind arith, refl), refl) (sound.entry (suc l) (little_endian (got m (entry_bytes p (suc l) table a)).bytes) (omega arith) k) rest
      step (Some f) q rest = inr (_, _, rel.Stops.missing q)

  -- what a sound scheme says of a page that an entry leads to
  leaf : Sound p → (l table : ℕ) {e : Entry} {pg : Page} → EntryIs p m a (suc l) table (Some e) → e.target ≡ Leaf pg → suc l ≤ p.levels → Placed pg × Alike p (suc l) pg.size
  leaf sound l table (raw, h, q) s k = rw (q, s) at (sound.entry (suc l) raw (omega arith) k)

  pub leads_placed : Sound p → {l table : ℕ} {reads : List ℕ} {pg : Page} → Leads p m a l table reads pg → l ≤ p.levels → Placed pg
  leads_placed sound (rel.Leads.page h s) k = (leaf sound _ _ h s k).0
  leads_placed sound (rel.Leads.next h s c) k = leads_placed sound c (omega arith)

  -- The addresses of the page that a chain leads to have the same indices on the way, so the same chain.
  module _ (sound : Sound p) (b : ℕ) where
    abbrev Same : (l : ℕ) → Type 0
    Same l = (p.lawful a ≡ p.lawful b) × ((k : ℕ) → l ≤ k → p.index k a ≡ p.index k b)

    pub leads_alike : {l table : ℕ} {reads : List ℕ} {pg : Page} → Leads p m a l table reads pg → l ≤ p.levels → a / pg.size ≡ b / pg.size → Same l × Leads p m b l table reads pg
    leads_alike (rel.Leads.page {l = l} {table = table} h s) k same-page =
        let same = (leaf sound l table h s k).1 a b same-page in
        let index = same.1 (suc l) (omega arith) in
        (same, rw index (rel.Leads.page (rw index at h) s))
    leads_alike (rel.Leads.next {l = l} h s c) k same-page =
        let (same, chain) = leads_alike c (omega arith) same-page in
        let index = same.1 (suc l) (omega arith) in
        ((same.0, λ j n. same.1 j (omega arith)), rw index (rel.Leads.next (rw index at h) s chain))
