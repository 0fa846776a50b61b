use Rattle.std.proofs.Common.{refl}
use Rattle.cc_general.proofs.Telling.{among_told, come_at, exhausted_gives, over_gives, over_told, show_few, show_gives, show_ready}
use Rattle.cc_general.proofs.turns.GeneralTurns.tell.Goals as goal

pub show-requires-clause-ready : goal.show-requires-clause-ready
show-requires-clause-ready c =
    let (before, begun, ready, comes) = c.requires.come in
    show_ready c.args.self.now before begun ready c.histories_have_no_rivals.ensures c.requires.wanting c.args.search c.args.lines.items c.in-Alone.row c.in-Alone.shown
    (come_at c.args.self.now before begun.items c.args.lines.items c.args.search c.args.halt _ c.in-Alone.is comes) c.args.lines refl

pub show-requires-clause-few : goal.show-requires-clause-few
show-requires-clause-few c =
    let (before, begun, ready, comes) = c.requires.come in
    show_few c.args.self.now before begun ready c.histories_have_no_rivals.ensures c.requires.wanting c.args.search c.args.lines.items c.in-Alone.row c.in-Alone.shown
    (come_at c.args.self.now before begun.items c.args.lines.items c.args.search c.args.halt _ c.in-Alone.is comes) c.args.lines refl

pub exhaust-requires-clause-low : goal.exhaust-requires-clause-low
exhaust-requires-clause-low c = let (before, begun, ready, comes) = c.requires.come in ready.low

pub returns-in-Alone-clause-told : goal.returns-in-Alone-clause-told
returns-in-Alone-clause-told c = λ before begun ready comes.
    show_gives c.args.self.now before begun ready c.histories_have_no_rivals.ensures c.requires.wanting c.args.search c.args.lines.items c.in-Alone.row c.in-Alone.shown
    (come_at c.args.self.now before begun.items c.args.lines.items c.args.search c.args.halt _ c.in-Alone.is comes) c.args.lines refl
    c.show.new.self c.show.result c.show.ensures.new c.show.ensures.event

pub returns-in-SpentOver-clause-told : goal.returns-in-SpentOver-clause-told
returns-in-SpentOver-clause-told c = λ before begun ready comes.
    over_told c.args.self.now before begun c.spent.result _ c.spent.ensures
    (over_gives c.args.self.now before begun ready c.histories_have_no_rivals.ensures c.requires.wanting c.args.search c.args.lines.items c.requires.over
    c.in-SpentOver.row c.in-SpentOver.over (come_at c.args.self.now before begun.items c.args.lines.items c.args.search c.args.halt _ c.in-SpentOver.is comes))

pub returns-in-Exhausted-clause-told : goal.returns-in-Exhausted-clause-told
returns-in-Exhausted-clause-told c = λ before begun ready comes.
    exhausted_gives c.args.self.now before begun ready c.histories_have_no_rivals.ensures c.requires.wanting c.args.search c.args.lines.items c.requires.over
    (come_at c.args.self.now before begun.items c.args.lines.items c.args.search c.args.halt _ c.in-Exhausted.is comes)
    c.exhaust.new.self c.exhaust.result c.exhaust.ensures.some c.exhaust.ensures.none

pub returns-in-SpentAmong-clause-told : goal.returns-in-SpentAmong-clause-told
returns-in-SpentAmong-clause-told c =
    among_told c.histories_have_no_rivals.ensures c.args.self.now c.args.search c.args.lines.items c.args.halt c.spent_among.result c.in-SpentAmong.is
    c.requires.over c.requires.wanting c.spent_among.ensures.event
