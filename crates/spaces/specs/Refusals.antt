use Rattle.std.specs.Prelude.{ℕ}
use Rattle.spaces.specs.declared.refusal.EditRefusal.{EditRefusal}
use Rattle.spaces.specs.declared.refusal.EditRefusal.TheVariants.{PastTheEnd, NoOverlay, TooManyPatches}

-- the number of each refusal of an edit
abbrev pub edit_refusal_number : EditRefusal → ℕ
edit_refusal_number PastTheEnd = 0x25
edit_refusal_number NoOverlay = 0x26
edit_refusal_number TooManyPatches = 0x27
