use Rattle.std.specs.Prelude.{◌≡◌, ℕ, suc, true, false, List, [], ◌++◌, Some, None, Ok, Err, Option, Result}
use Rattle.spaces.specs.declared.fault.Fault.{Fault}
use Rattle.paging.specs.declared.cause.PagingCause.TheVariants.{Unlawful, Absent}
use Rattle.paging.specs.Causes.{cause_number}
use Rattle.spaces.specs.Maps.{Map, own, climbed}
use Rattle.spaces.specs.Reads.{span, got, through}
use Rattle.endian.specs.Little.{little_endian}
use Rattle.paging.specs.declared.entry.Page.{Page}
use Rattle.paging.specs.declared.entry.Target.TheVariants.{Table, Leaf}
use Rattle.paging.specs.declared.entry.Entry.{Entry}
use Rattle.paging.specs.declared.translation.Translation.{Translation}
use Rattle.paging.specs.Formats.{Format}
use Rattle.paging.specs.Paged.{entry_at, final}

-- Translation as the processor's manual has it: a relation between an address and a page, without a walk.

-- all bytes of an entry are there, and make a number
abbrev pub Holds : Map → (width at raw : ℕ) → Type 0
Holds m width at raw = (bytes : List ℕ) × (got m (span at width) ≡ record { bytes = bytes; fault = None }) × (little_endian bytes ≡ raw)

-- the first byte of an entry that is missing has a fault
abbrev pub Lacks : Map → (width at : ℕ) → Fault → Type 0
Lacks m width at f = (got m (span at width)).fault ≡ Some f

-- the addresses of the bytes of an address's entry in a table of a level
abbrev pub entry_bytes : Format → (level table a : ℕ) → List ℕ
entry_bytes p level table a = span (entry_at p level table a) p.width

module _ (p : Format) (m : Map) where
  -- in a table of a level, all bytes of the entry of an address are there, and this is what it means
  abbrev pub EntryIs : (a level table : ℕ) → Option Entry → Type 0
  EntryIs a level table o = (raw : ℕ) × Holds m p.width (entry_at p level table a) raw × (p.decoded level raw ≡ o)

  -- From a table of a level a chain of present entries, each found at its index, leads an address to a page. The list
  -- has the addresses of the entries' bytes.
  pub data Leads (a : ℕ) : (level table : ℕ) → List ℕ → Page → Type 0 where
    page : {l table : ℕ} {e : Entry} {pg : Page} → EntryIs a (suc l) table (Some e) → e.target ≡ Leaf pg → Leads a (suc l) table (entry_bytes p (suc l) table a) pg
    next : {l table t : ℕ} {e : Entry} {reads : List ℕ} {pg : Page} → EntryIs a (suc l) table (Some e) → e.target ≡ Table t
        → Leads a l t reads pg → Leads a (suc l) table (entry_bytes p (suc l) table a ++ reads) pg

  -- Such a chain ends at a byte of an entry that is missing, or at an entry that is not present.
  pub data Stops (a : ℕ) : (level table : ℕ) → List ℕ → Fault → Type 0 where
    missing : {l table : ℕ} {f : Fault} → Lacks m p.width (entry_at p (suc l) table a) f → Stops a (suc l) table (through m (entry_bytes p (suc l) table a)) (climbed f)
    absent : {l table : ℕ} → EntryIs a (suc l) table None → Stops a (suc l) table (entry_bytes p (suc l) table a) (own a (cause_number (Absent (suc l))))
    next : {l table t : ℕ} {e : Entry} {reads : List ℕ} {f : Fault} → EntryIs a (suc l) table (Some e) → e.target ≡ Table t
        → Stops a l t reads f → Stops a (suc l) table (entry_bytes p (suc l) table a ++ reads) f

  module _ (cr3 a : ℕ) where
    -- the page of an address, by the table bytes that were read
    pub record Translates (reads : List ℕ) (pg : Page) : Type 0 where
      pub lawful : p.lawful a ≡ true
      pub chain : Leads a p.levels (p.root cr3) reads pg

    -- the first thing that is missing, by the table bytes that were read
    pub data Fails : List ℕ → Fault → Type 0 where
      unlawful : p.lawful a ≡ false → Fails [] (own a (cause_number Unlawful))
      stops : {reads : List ℕ} {f : Fault} → p.lawful a ≡ true → Stops a p.levels (p.root cr3) reads f → Fails reads f

    -- an answer is the translation where there is one, and else the fault of the first thing that is missing
    pub record Answers (r : Result Translation Fault) : Type 0 where
      pub page : (t : Translation) → r ≡ Ok t → (reads : List ℕ) × (pg : Page) × Translates reads pg × (t ≡ final pg a)
      pub only_page : (reads : List ℕ) (pg : Page) → Translates reads pg → r ≡ Ok (final pg a)
      pub fault : (f : Fault) → r ≡ Err f → (reads : List ℕ) × Fails reads f
      pub only_fault : (reads : List ℕ) (f : Fault) → Fails reads f → r ≡ Err f
