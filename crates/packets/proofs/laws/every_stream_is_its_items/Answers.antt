use Rattle.packets.proofs.Streaming.{every_stream}
use Rattle.packets.proofs.laws.every_stream_is_its_items.Goals as goal

pub returns : goal.returns
returns c = every_stream
