use Rattle.std.specs.Prelude.{Ok, Err, Result}
use Rattle.images.specs.declared.refusal.LoadRefusal.{LoadRefusal}
use Rattle.spaces.specs.Piles.{Pile}

-- what an answer of the program is: what its space means, or its refusal
abbrev pub meant : {S : Type 0} → (S → Pile) → Result S LoadRefusal → Result Pile LoadRefusal
meant meaning (Ok space) = Ok (meaning space)
meant meaning (Err refusal) = Err refusal
