use Rattle.cc_sure.proofs.Giving.{add_gives, add_ready, count_small}
use Rattle.cc_sure.proofs.turns.SureTurns.add.Goals as goal

pub count-number-requires : goal.count-number-requires
count-number-requires c =
    let (size, at, less) = c.requires.next in
    count_small c.args.self.now c.args.form c.requires.asking size at less c.args.row c.add_found.new.self _ c.in_ok-row.ensures.added

pub stand-requires : goal.stand-requires
stand-requires c =
    let (size, at, less) = c.requires.next in
    add_ready c.args.self.now c.args.form c.requires.asking size at less c.args.row c.requires.new c.requires.within c.requires.found c.add_found.new.self c.in_ok-row.ensures.added

pub returns-clause-gives : goal.returns-clause-gives
returns-clause-gives c =
    let (size, at, less) = c.requires.next in
    add_gives c.args.self.now c.args.form c.requires.asking size at less c.args.row c.requires.new c.requires.within c.requires.found c.in_ok-row.row c.count-number.result c.add_found.new.self c.stand.new.self
    c.in_ok-row.ensures.added c.stand.ensures c.in_ok-row.ensures.copied c.count-number.ensures
