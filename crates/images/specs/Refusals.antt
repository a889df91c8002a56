use Rattle.std.specs.Prelude.{ℕ}
use Rattle.images.specs.declared.refusal.LoadRefusal.{LoadRefusal}
use Rattle.images.specs.declared.refusal.LoadRefusal.TheVariants.{HeaderCut, BadHeader, Overlap, TableFull}

-- the number of each refusal of a load
abbrev pub load_refusal_number : LoadRefusal → ℕ
load_refusal_number HeaderCut = 0x30
load_refusal_number BadHeader = 0x31
load_refusal_number Overlap = 0x34
load_refusal_number TableFull = 0x35
