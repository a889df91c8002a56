use Rattle.std.proofs.Common.{refl}
use Rattle.paging.proofs.Examples as schemes
use Rattle.carts.specs.Carts.{loaded}
use Rattle.carts.proofs.Examples as carts
use Rattle.worked.specs.Worked.{WorkedExamples}
use Rattle.worked.specs.Sitting.{SittingExamples}

-- Each is proved by computing.
sitting : SittingExamples
unfolding loaded
sitting = record {
  no_fault_yet = refl;
  next_page = record { reply_is = refl; fault_is = refl };
  no_byte = record { reply_is = refl; fault_is = refl };
  no_entry = record { reply_is = refl; fault_is = refl };
  unlawful = record { reply_is = refl; fault_is = refl };
  stream = refl;
}

pub worked : WorkedExamples
worked = record { paging = schemes.worked; cart = carts.worked; sitting = sitting }
