use Rattle.serving.proofs.Running.{all_of_it, all_in_turn, whatever_comes, broken_off}
use Rattle.serving.proofs.to_end.serve.Goals as goal

pub returns-clause-is : goal.returns-clause-is
returns-clause-is g c = all_of_it _ _ _ _ _ _ _ _ c.close.ensures c.run-result.result (rw (c.new-server.ensures.server, c.new-server.ensures.pc) at c.run-result.ensures.ok)

pub returns-clause-in_words : goal.returns-clause-in_words
returns-clause-in_words g c = all_in_turn _ _ _ _ _ _ _ _ c.close.ensures c.run-result.result (rw (c.new-server.ensures.server, c.new-server.ensures.pc) at c.run-result.ensures.ok)

pub returns-clause-err : goal.returns-clause-err
returns-clause-err g c = broken_off _ _ _ _ _ _ c.close.ensures c.run-result.result (rw (c.new-server.ensures.server, c.new-server.ensures.pc) at c.run-result.ensures.err)

pub returns-clause-all : goal.returns-clause-all
returns-clause-all g c = whatever_comes _ _ _ _ _ _ _ _ c.close.ensures c.run-result.result (rw (c.new-server.ensures.server, c.new-server.ensures.pc) at c.run-result.ensures.ok)
