use Rattle.std.proofs.Common.{rules}
use Rattle.serving.specs.Servers.{served, service}
use Rattle.serving.specs.Words.{Listens}
use Rattle.serving.proofs.Listening.{in_items}
use Rattle.serving.proofs.server.Server.listen.Goals as goal

pub returns-clause-in_words : goal.returns-clause-in_words
returns-clause-in_words g c =
    let ok : Listens (service c.args.self.now) (served g.S.Space.meaning c.args.self.now) c.args.received.now (g.W.Write.contents c.args.output.now) (g.W.Write.contents c.flush.new.self) c.in_ok-used.used (served g.S.Space.meaning c.turns.new.self) = search rules in
    in_items (service c.args.self.now) _ _ _ _ ok.sent
