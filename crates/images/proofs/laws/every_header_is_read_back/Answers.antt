use Rattle.images.proofs.HeaderBytes.{every_header}
use Rattle.images.proofs.laws.every_header_is_read_back.Goals as goal

pub returns : goal.returns
returns c = every_header
