use Rattle.std.specs.Prelude.{ℕ, ◌+◌, ◌-◌, ◌*◌, ◌^◌, min, Bool, cond, ◌&&◌, ◌||◌, Some, None, Option, ◌==◌, nat_lt}
use Rattle.paging.specs.declared.entry.Target.{Target}
use Rattle.paging.specs.declared.entry.Target.TheVariants.{Table, Leaf}
use Rattle.paging.specs.declared.entry.Entry.{Entry}
use Rattle.paging.specs.Bits.{field, bits, bit}
use Rattle.paging.specs.Formats.{Format}

-- The three schemes, bit by bit.

-- a page whose base is bits high:low of its entry, and which is as large as the bits below leave room for
abbrev pub page : (high low entry : ℕ) → Target
page high low e = Leaf (record { base = bits high low e; size = 2 ^ low })

-- the next table is at bits high:12
abbrev pub table : (high entry : ℕ) → Target
table high e = Table (bits high 12 e)

-- bit 0 is present
abbrev pub present : (entry : ℕ) → Target → Option Entry
present e t = cond (bit 0 e) (Some (record { target = t })) None

-- bit 7 of an entry of one level marks a large page
abbrev pub large_at : (n level entry : ℕ) → Bool
large_at n level e = level == n && bit 7 e

-- Two levels of 4-byte entries. Index bits by level: 2: 31:22, 1: 21:12.
abbrev pub two_target : (level entry : ℕ) → Target
two_target l e = cond (l == 1) (page 31 12 e) (cond (large_at 2 l e) (page 31 22 e) (table 31 e))

abbrev pub two_level : Format
two_level = record {
  levels = 2;
  width = 4;
  lawful = λ a. nat_lt a (2 ^ 32);
  root = bits 31 12;
  index = λ l a. field (10 * l + 11) (10 * l + 2) a;
  decoded = λ l e. present e (two_target l e);
}

-- PAE: three levels of 8-byte entries, the root of 32 bytes. Index bits by level: 3: 31:30, 2: 29:21, 1: 20:12.
abbrev pub pae_target : (level entry : ℕ) → Target
pae_target l e = cond (l == 1) (page 51 12 e) (cond (large_at 2 l e) (page 51 21 e) (table 51 e))

abbrev pub pae : Format
pae = record {
  levels = 3;
  width = 8;
  lawful = λ a. nat_lt a (2 ^ 32);
  root = bits 31 5;
  index = λ l a. field (min 31 (9 * l + 11)) (9 * l + 3) a;
  decoded = λ l e. present e (pae_target l e);
}

-- Four levels of 8-byte entries; bits 63 to 47 of an address are equal. Index bits by level: 4: 47:39, 3: 38:30, 2: 29:21, 1: 20:12.
abbrev pub four_target : (level entry : ℕ) → Target
four_target l e = cond (l == 1) (page 51 12 e) (cond (large_at 2 l e) (page 51 21 e) (cond (large_at 3 l e) (page 51 30 e) (table 51 e)))

abbrev pub four_level : Format
four_level = record {
  levels = 4;
  width = 8;
  lawful = λ a. (field 63 47 a == 0) || (field 63 47 a == 2 ^ 17 - 1);
  root = bits 51 12;
  index = λ l a. field (9 * l + 11) (9 * l + 3) a;
  decoded = λ l e. present e (four_target l e);
}
