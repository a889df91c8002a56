use Rattle.paging.specs.Worked as schemes
use Rattle.carts.specs.Worked.{CartExamples}
use Rattle.worked.specs.Sitting.{SittingExamples}

-- all worked examples: one for each scheme of paging, reads of the sample cart, and a session over it
pub record WorkedExamples : Type 0 where
  pub paging : schemes.Worked
  pub cart : CartExamples
  pub sitting : SittingExamples
