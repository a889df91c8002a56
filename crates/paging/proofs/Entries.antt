use Rattle.std.proofs.Common.{◌≡◌, ℕ, zero, suc, ◌<◌, ◌≤◌, List, ◌∷◌, Some, None, Ok, Err, Option, Result, refl, arith}
use Rattle.std.proofs.lemmas.Grind.{common_steps}
use Rattle.spaces.specs.declared.fault.Fault.{Fault}
use Rattle.spaces.specs.Maps.{Map, climbed}
use Rattle.spaces.specs.Reads.{span, got, through}
use Rattle.spaces.specs.Walks.{give, walked}
use Rattle.spaces.proofs.Sequences.{walked_after}
use Rattle.endian.specs.Little.{little_endian}
use Rattle.paging.specs.declared.entry.Entry.{Entry}
use Rattle.paging.specs.Formats.{Format, SoundTarget, Sound}
use Rattle.paging.specs.Entries.{as_number, decoded_or, entry_found}
use Rattle.paging.specs.Paged.{bytes_at, entry_at, present_at, entry_of}
use Rattle.paging.specs.Translations.{entry_bytes}

-- A walk over so many bytes finds what a read of them gives, and reads its addresses through the first without a byte.

abbrev bytes_or : Option Fault → List ℕ → Result (List ℕ) Fault
bytes_or None bytes = Ok bytes
bytes_or (Some f) bytes = Err (climbed f)

bytes_walked : (a n at : ℕ) (m : Map) → walked a (bytes_at n at) m ≡ (bytes_or (got m (span at n)).fault (got m (span at n)).bytes, through m (span at n))
bytes_walked a zero at m = refl
bytes_walked a (suc n) at m =
    let rest = bytes_walked a n (suc at) m in
    let with_it = (λ (b : ℕ). walked_after a (bytes_at n (suc at)) (λ bs. give (b ∷ bs)) m) in
    grind (arith, common_steps)

-- The same for an entry.

pub entry_walked : (p : Format) (m : Map) (a l table : ℕ) → walked a (entry_of p a l table) m ≡ (decoded_or p a l (as_number (got m (entry_bytes p l table a))), through m (entry_bytes p l table a))
entry_walked p m a l table =
    let bytes = bytes_walked a p.width (entry_at p l table a) m in
    let entry = walked_after a (bytes_at p.width (entry_at p l table a)) (λ bs. present_at l (p.decoded l (little_endian bs))) m in
    grind (arith, common_steps)

-- what is found of an entry is one of its level
pub entry_means : (p : Format) → Sound p → (m : Map) (a l table : ℕ) → 0 < l → l ≤ p.levels → (e : Entry) → Ok e ≡ entry_found p m a l table → SoundTarget p l e.target
entry_means p sound m a l table z k e h = let s = sound.entry l (little_endian (got m (entry_bytes p l table a)).bytes) z k in grind arith
