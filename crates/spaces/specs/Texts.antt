use Rattle.std.specs.Prelude.{ℕ, List, ◌++◌, codes}
use Rattle.std.specs.Fmt.{decimal}
use Rattle.numbers.specs.Texts.{hex}
use Rattle.spaces.specs.declared.fault.Fault.{Fault}

-- How a fault is shown.
abbrev pub fault_text : Fault → List ℕ
fault_text f = codes "depth " ++ (decimal f.depth ++ (codes ", address " ++ (hex 16 f.address ++ (codes ", cause " ++ hex 2 f.cause))))
