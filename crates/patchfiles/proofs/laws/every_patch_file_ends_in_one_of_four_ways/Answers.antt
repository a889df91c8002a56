use Rattle.patchfiles.proofs.Ending.{every_file}
use Rattle.patchfiles.proofs.laws.every_patch_file_ends_in_one_of_four_ways.Goals as goal

pub returns : goal.returns
returns c = every_file
