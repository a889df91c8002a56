use Rattle.std.specs.Prelude.{ℕ}
use Rattle.spaces.specs.Refusals.{edit_refusal_number}
use Rattle.patchfiles.specs.declared.refusal.PatchFileRefusal.{PatchFileRefusal}
use Rattle.patchfiles.specs.declared.refusal.PatchFileRefusal.TheVariants.{BadLength, BadRecord, Edit}

-- the number of each refusal of a patch file
abbrev pub patch_file_refusal_number : PatchFileRefusal → ℕ
patch_file_refusal_number BadLength = 0x3a
patch_file_refusal_number BadRecord = 0x3b
patch_file_refusal_number (Edit refusal) = edit_refusal_number refusal
