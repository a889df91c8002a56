use Rattle.std.proofs.Common.{◌≡◌, take}
use Rattle.packets.specs.Frames.{checksum}
use Rattle.packets.proofs.framing.copy_summed.Given as goal

-- the bytes so far are copied and summed
abbrev pub invariant-loop-n : goal.invariant-loop-n
invariant-loop-n l = record {
  copied : take l.n l.place ≡ take l.n l.payload;
  summed : l.sum ≡ checksum (take l.n l.payload);
}
