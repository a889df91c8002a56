use Rattle.std.proofs.Common.{refl}
use Rattle.carts.specs.Carts.{loaded}
use Rattle.carts.specs.Worked.{CartExamples}

-- Each is proved by computing: an address takes some milliseconds.
pub worked : CartExamples
unfolding loaded
worked = record {
  loads = refl;
  next_page = refl;
  no_byte = refl;
  no_entry = refl;
  unlawful = refl;
  accepted = refl;
  mended = refl;
  rests = refl;
  rests_below = refl;
  absent_rests = refl;
  mended_rests = refl;
}
