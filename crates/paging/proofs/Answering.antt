use Rattle.std.proofs.Common.{◌≡◌, ℕ, Bool, true, false, ◌⊎◌, List, [], ◌∷◌, ◌++◌, Ok, Err, Result, refl, inl, inr, append-nil, arith}
use Rattle.spaces.specs.declared.fault.Fault.{Fault}
use Rattle.spaces.specs.Maps.{Map, raised}
use Rattle.spaces.specs.Walks.{give, ask, walked, found}
use Rattle.spaces.proofs.Sequences.{after_there, after_missing}
use Rattle.paging.specs.declared.entry.Page.{Page}
use Rattle.paging.specs.declared.translation.Translation.{Translation}
use Rattle.paging.specs.Formats.{Format, Sound}
use Rattle.paging.specs.Paged.{page_of, final, translation, paged}
use Rattle.paging.specs.Translations.{Translates, Fails, unlawful, stops, Answers}
use Rattle.paging.proofs.Ways.{leads_walked, stops_walked, Way, way}

-- The whole walk of an address is the manual's translation.

module _ (p : Format) (m : Map) (cr3 a : ℕ) where
  page_found : {reads : List ℕ} {pg : Page} → Translates p m cr3 a reads pg → walked a (page_of p cr3 a) m ≡ (Ok pg, reads)
  page_found t = rw t.lawful (leads_walked p m a t.chain)

  fault_found : {reads : List ℕ} {f : Fault} → Fails p m cr3 a reads f → walked a (page_of p cr3 a) m ≡ (Err f, reads)
  fault_found (unlawful q) = rw q
  fault_found (stops q c) = rw q (stops_walked p m a c)

  translation_found : {reads : List ℕ} {pg : Page} → Translates p m cr3 a reads pg → walked a (translation p cr3 a) m ≡ (Ok (final pg a), reads)
  translation_found {reads} {pg} t = rw (after_there a (page_of p cr3 a) (λ pg. give (final pg a)) m pg reads (page_found t), append-nil)

  translation_missing : {reads : List ℕ} {f : Fault} → Fails p m cr3 a reads f → walked a (translation p cr3 a) m ≡ (Err f, reads)
  translation_missing t = after_missing a (page_of p cr3 a) _ m _ _ (fault_found t)

  pub byte_found : {reads : List ℕ} {pg : Page} → Translates p m cr3 a reads pg → walked a (paged p cr3 a) m ≡ (raised (m (final pg a).address), reads ++ ((final pg a).address ∷ []))
  byte_found {reads} {pg} t = grind (arith, after_there a (translation p cr3 a) (λ t. ask t.address give) m (final pg a) reads (translation_found t))

  pub byte_missing : {reads : List ℕ} {f : Fault} → Fails p m cr3 a reads f → walked a (paged p cr3 a) m ≡ (Err f, reads)
  byte_missing t = after_missing a (translation p cr3 a) _ m _ _ (translation_missing t)

  -- An address translates, or something is missing.
  abbrev pub Outcome : Type 0
  Outcome = ((reads : List ℕ) × (pg : Page) × Translates p m cr3 a reads pg) ⊎ ((reads : List ℕ) × (f : Fault) × Fails p m cr3 a reads f)

  pub outcome : Sound p → Outcome
  outcome sound = by (p.lawful a) refl (way p m a sound p.levels (p.root cr3) sound.some (omega arith))
    where
      by : (b : Bool) → p.lawful a ≡ b → Way p m a p.levels (p.root cr3) → Outcome
      by true q (inl c) = inl (_, c.1, record { lawful = q; chain = c.2 })
      by true q (inr c) = inr (_, c.1, stops q c.2)
      by false q w = inr (_, _, unlawful q)

  pub answers : Sound p → (r : Result Translation Fault) → r ≡ found a (translation p cr3 a) m → Answers p m cr3 a r
  answers sound r e = record {
    page = λ t q. page t q (outcome sound);
    only_page = λ reads pg t. grind (arith, translation_found t);
    fault = λ f q. fault f q (outcome sound);
    only_fault = λ reads f t. grind (arith, translation_missing t);
  }
    where
      page : (t : Translation) → r ≡ Ok t → Outcome → (reads : List ℕ) × (pg : Page) × Translates p m cr3 a reads pg × (t ≡ final pg a)
      page t q (inl c) = (c.0, c.1, c.2, grind (arith, translation_found c.2))
      page t q (inr c) = grind (arith, translation_missing c.2)

      fault : (f : Fault) → r ≡ Err f → Outcome → (reads : List ℕ) × Fails p m cr3 a reads f
      fault f q (inl c) = grind (arith, translation_found c.2)
      fault f q (inr c) = grind (arith, translation_missing c.2)
