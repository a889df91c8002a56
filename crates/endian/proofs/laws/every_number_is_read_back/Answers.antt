use Rattle.endian.proofs.ReadBack.{every_number}
use Rattle.endian.proofs.laws.every_number_is_read_back.Goals as goal

pub returns : goal.returns
returns c = every_number
