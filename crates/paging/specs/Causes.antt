use Rattle.std.specs.Prelude.{ℕ, ◌+◌, min}
use Rattle.paging.specs.declared.cause.PagingCause.{PagingCause}
use Rattle.paging.specs.declared.cause.PagingCause.TheVariants.{Unlawful, Absent}

-- the number of a cause; that of an absent entry has its level added
abbrev pub cause_number : PagingCause → ℕ
cause_number Unlawful = 0x04
cause_number (Absent level) = min 255 (level + 0x10)
