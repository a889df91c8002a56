use Rattle.std.proofs.Common.{◌≡◌, ℕ, List, length, Some, None, Result, arith, MatchResult}
use Rattle.std.proofs.lemmas.Bool.Decides.{nat_tests}
use Rattle.std.proofs.lemmas.Grind.{common_steps}
use Rattle.extents.specs.declared.table.Table.{Table}
use Rattle.extents.specs.Tables.{held}
use Rattle.images.specs.declared.refusal.LoadRefusal.{LoadRefusal}
use Rattle.images.specs.declared.load.NotLoaded.{NotLoaded}
use Rattle.images.specs.declared.range.LimeRange.{LimeRange}
use Rattle.images.specs.Kinds.{lime_bounds}
use Rattle.images.specs.Loads.{Loads}
use Rattle.images.specs.Lime.{lime_header, lime}
use Rattle.images.specs.Shows.{ShowsRanges, StopsAt}
use Rattle.images.proofs.Separate.{first_is, first_none}
use Rattle.images.proofs.Walking.{Reads, reads}
use Rattle.images.proofs.Headers.{leads, why}

-- What a load of a LiME file says of the file and of its image.
module _ (file : List ℕ) (room : ℕ) where
  read_all : Reads lime_bounds (lime_header file) room 0 (lime room file)
  read_all = reads lime_bounds (lime_header file) room 0

  shows_ranges : (lime room file).refused ≡ None → ShowsRanges file (lime room file).extents
  shows_ranges e = let all = read_all in record {
    stop = all.stop;
    ranges = leads file all.follow;
    whole = grind (arith, nat_tests);
    apart = all.apart;
    byte = λ k a r at low high h. grind (arith, nat_tests, first_is lime_bounds _ k a r all.apart at);
    lacking = λ k a r at low high h. grind (arith, nat_tests, first_is lime_bounds _ k a r all.apart at);
    absent = λ a n. grind (arith, first_none lime_bounds (lime room file).extents a);
  }

  stops_at : (refusal : LoadRefusal) (place : ℕ) → (lime room file).refused ≡ Some (refusal, place)
      → StopsAt file room (lime room file).extents (record { refusal = refusal; place = place; written = length (lime room file).extents })
  stops_at refusal place e = let all = read_all in let ranges = leads file all.follow in
      let reason = why file room all.stop (lime room file).extents refusal all.few in grind arith

-- what a load of a LiME file says, by what is answered
pub lime_law : (room : ℕ) (file : List ℕ) (t u : Table LimeRange) (r : Result ℕ NotLoaded) → Loads (lime room file) t u r → MatchResult r (λ _. ShowsRanges file (held u)) (StopsAt file room (held u))
lime_law room file t u r s = grind (arith, common_steps, shows_ranges file room, stops_at file room)
