use Rattle.cc_sure.proofs.Refusing.{gives_behind, refuses_behind}
use Rattle.cc_sure.proofs.turns.SureTurns.ask_size.Goals as goal

pub returns-clause-gives : goal.returns-clause-gives
returns-clause-gives c = gives_behind c.args.form c.args.self.now c.skip.new.self c.requires.asking c.in_ok-skip.ensures.passes c.ask_at.result c.ask_at.new.self c.ask_at.ensures.gives

pub returns-clause-fault : goal.returns-clause-fault
returns-clause-fault c = refuses_behind c.args.form c.args.self.now c.skip.new.self c.requires.asking c.in_ok-skip.ensures.passes c.ask_at.result c.ask_at.ensures.fault
