use Rattle.std.proofs.Common.{refl}
use Rattle.cc_defs.specs.declared.log.EndWord.TheVariants as words
use Rattle.cc_sure.proofs.Giving.{outcome_at, stopped_gives, value_small}
use Rattle.cc_sure.proofs.turns.SureTurns.tried.Goals as goal

pub atom-position-requires : goal.atom-position-requires
atom-position-requires c = let (size, at, less) = c.requires.next in value_small c.args.self.now c.args.form c.requires.asking size at less

pub returns-in-Spent-clause-gives : goal.returns-in-Spent-clause-gives
returns-in-Spent-clause-gives c =
    let (size, at, less) = c.requires.next in
    stopped_gives c.args.self.now c.args.form c.requires.asking size at less c.requires.new c.requires.within words.Spent c.in-Spent.lines
    (outcome_at _ _ c.args.outcome _ c.in-Spent.is c.requires.outcome) c.atom-position.result.0 c.atom-position.result.1 refl c.requires.over c.atom-position.ensures.position c.atom-position.ensures.value
