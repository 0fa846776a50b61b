use Rattle.std.proofs.Common.{arith}
use Rattle.cc_sure.proofs.Giving.{begin_gives, begin_ready}
use Rattle.cc_sure.proofs.turns.SureTurns.begin.Goals as goal

pub stand-requires : goal.stand-requires
stand-requires c =
    let (most, examples, position, never) = c.requires.ready in
    begin_ready c.args.self.now c.args.form c.args.row c.requires.low examples position never c.requires.opened c.requires.found
    (let least = c.variables-last.ensures.least in let top = c.variables-last.ensures.most in omega arith) c.add_example.new.self c.in_ok-row.ensures.added

pub returns-clause-gives : goal.returns-clause-gives
returns-clause-gives c =
    let (most, examples, position, never) = c.requires.ready in
    begin_gives c.args.self.now c.args.form c.args.row c.in_ok-row.row c.requires.low examples position never c.requires.opened c.requires.found
    (let least = c.variables-last.ensures.least in let top = c.variables-last.ensures.most in omega arith) c.add_example.new.self c.stand.new.self c.in_ok-row.ensures.added c.stand.ensures c.in_ok-row.ensures.copied
