use Rattle.std.specs.Prelude.{ℕ, List, ◌++◌, codes}
use Rattle.std.specs.Fmt.{decimal}
use Rattle.numbers.specs.Texts.{hex, number_text}
use Rattle.images.specs.declared.load.NotLoaded.{NotLoaded}
use Rattle.images.specs.declared.range.LimeRange.{LimeRange}
use Rattle.images.specs.Refusals.{load_refusal_number}

-- How the ranges of a file and what is wrong with it are shown.

abbrev pub not_loaded_text : NotLoaded → List ℕ
not_loaded_text n = codes "refused " ++ (number_text (load_refusal_number n.refusal) ++ (codes " at place " ++ (decimal n.place ++ (codes ", extents before it: " ++ decimal n.written))))

abbrev pub range_text : LimeRange → List ℕ
range_text r = hex 16 r.first ++ (codes " to " ++ (hex 16 r.last ++ (codes ", bytes from place " ++ (decimal r.place ++ codes " on"))))
