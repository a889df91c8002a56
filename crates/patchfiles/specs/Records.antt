use Rattle.std.specs.Prelude.{ℕ, if◌then◌else◌, ◌&&◌, Bool, List, [], ◌∷◌, get_or, Some, None, Option, ◌==◌}
use Rattle.std.specs.List.{list_all}
use Rattle.std.specs.Option.{option_map}
use Rattle.endian.specs.Little.{number_at}
use Rattle.spaces.specs.Edits.{Edit, setting, clearing}
use Rattle.patchfiles.specs.Runs.{Mark}

-- A record of a patch file: 16 bytes. 0 to 7 are an address, lowest first, 8 a depth, 9 the kind (1 sets a patch, 0 takes one
-- back), 12 the value that is set. All others are 0.

-- what is done at an address, by kind and value: none for another kind, and for a value where none is set
abbrev pub change : ℕ → ℕ → ℕ → Option Edit
change address kind value =
    if kind == 1 then Some (setting address (value ∷ []))
    else if kind == 0 && value == 0 then Some (clearing address 1)
    else None

-- the places that no field has, and that they are all 0
abbrev pub unused : List ℕ
unused = 10 ∷ 11 ∷ 13 ∷ 14 ∷ 15 ∷ []

abbrev pub blank : List ℕ → Bool
blank raw = list_all (λ place. get_or raw place 0 == 0) unused

-- what a record asks for, or none if it is malformed
abbrev pub mark_of : List ℕ → Option Mark
mark_of raw =
    if blank raw
    then option_map (λ e. record { depth = get_or raw 8 0; edit = e }) (change (number_at raw 0 8) (get_or raw 9 0) (get_or raw 12 0))
    else None
