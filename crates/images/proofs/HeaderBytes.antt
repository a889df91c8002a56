use Rattle.std.proofs.Common.{◌≡◌, ℕ, ◌+◌, ◌≤◌, List, ◌++◌, length, ◌∙◌, arith}
use Rattle.std.proofs.lemmas.Bool.Decides.{nat_tests}
use Rattle.std.proofs.lemmas.List.{length-append}
use Rattle.endian.specs.Little.{number_at}
use Rattle.endian.proofs.ReadBack.{little_endian-little_endian_bytes, number_at-append}
use Rattle.images.specs.Bytes.{header_bytes, IsHeaderOf, EveryHeaderIsReadBack}

-- A header is read back from its bytes.

-- what its numbers are
numbers_tell : (file : List ℕ) (place first last : ℕ) → place + 32 ≤ length file → first ≤ last
    → number_at file place 4 ≡ 0x4C694D45 → number_at file (place + 4) 4 ≡ 1 → number_at file (place + 8) 8 ≡ first → number_at file (place + 16) 8 ≡ last
    → IsHeaderOf first last file place
numbers_tell file place first last whole upward magic version low high = record { header = grind (arith, nat_tests); range = grind (arith, nat_tests) }

pub every_header : EveryHeaderIsReadBack
every_header first last upward fits front rest =
    let bytes = header_bytes first last ++ rest in
    let there = number_at-append front bytes in
    let whole : length front + 32 ≤ length (front ++ bytes) = omega (arith, length-append front bytes, length-append (header_bytes first last) rest) in
    numbers_tell (front ++ bytes) (length front) first last whole upward
    (there (length front) 0 4 (omega arith) ∙ little_endian-little_endian_bytes 4 0x4C694D45 (omega arith))
    (there (length front + 4) 4 4 (omega arith) ∙ little_endian-little_endian_bytes 4 1 (omega arith))
    (there (length front + 8) 8 8 (omega arith) ∙ little_endian-little_endian_bytes 8 first (omega arith))
    (there (length front + 16) 16 8 (omega arith) ∙ little_endian-little_endian_bytes 8 last (omega arith))
