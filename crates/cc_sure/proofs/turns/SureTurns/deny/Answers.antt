use Rattle.std.proofs.Common.{refl}
use Rattle.cc_defs.specs.declared.log.EndWord.TheVariants as words
use Rattle.cc_sure.proofs.Giving.{deny_gives, deny_ready, value_small}
use Rattle.cc_sure.proofs.turns.SureTurns.deny.Goals as goal

pub atom-position-requires : goal.atom-position-requires
atom-position-requires c = let (size, at, less) = c.requires.next in value_small c.args.self.now c.args.form c.requires.asking size at less

pub stand-requires : goal.stand-requires
stand-requires c =
    let (size, at, less) = c.requires.next in
    deny_ready c.args.self.now c.args.form c.requires.asking size at less c.requires.new c.requires.within words.Empty c.args.lines c.requires.none c.add_tried.new.self c.in_ok-add_tried.ensures.added

pub returns-clause-gives : goal.returns-clause-gives
returns-clause-gives c =
    let (size, at, less) = c.requires.next in
    deny_gives c.args.self.now c.args.form c.requires.asking size at less c.requires.new c.requires.within words.Empty c.args.lines c.requires.none c.atom-position.result.0 c.atom-position.result.1
    c.add_tried.new.self c.stand.new.self refl c.in_ok-add_tried.ensures.added c.stand.ensures c.atom-position.ensures.position c.atom-position.ensures.value
