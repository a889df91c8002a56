use Rattle.std.proofs.Common.{rules, ◌≡◌, ◌+◌, ◌%◌, ◌∙◌}
use Rattle.std.specs.List.{fold}
use Rattle.packets.proofs.Sums.{folded}
use Rattle.packets.proofs.framing.checksum.Goals as goal

pub returns : goal.returns
returns c = let e : c.fold.result ≡ fold (λ s b. (s + b) % 256) 0 c.args.payload.now = search rules in e ∙ folded c.args.payload.now
