use Rattle.cc_sure.proofs.Giving.{settle_few, settle_gives, settle_most, settle_ready, settle_short}
use Rattle.cc_sure.proofs.turns.SureTurns.settle.Goals as goal

pub atom-position-requires : goal.atom-position-requires
atom-position-requires c = settle_short c.args.self.now c.args.form c.requires.asking c.requires.all

pub settled-requires-clause-few : goal.settled-requires-clause-few
settled-requires-clause-few c = settle_few c.args.self.now c.args.form c.requires.asking c.requires.all

pub settled-requires-clause-short : goal.settled-requires-clause-short
settled-requires-clause-short c = settle_short c.args.self.now c.args.form c.requires.asking c.requires.all

pub pass_position-requires-clause-most : goal.pass_position-requires-clause-most
pass_position-requires-clause-most c = settle_most c.args.self.now c.args.form c.requires.asking c.requires.all

pub stand-requires : goal.stand-requires
stand-requires c = settle_ready c.args.self.now c.args.form c.requires.asking c.requires.all c.pass_position.new.self c.pass_position.ensures

pub returns-clause-gives : goal.returns-clause-gives
returns-clause-gives c =
    settle_gives c.args.self.now c.args.form c.requires.asking c.requires.all c.atom-position.result.0 c.in_ok-answers.answers c.pass_position.new.self c.stand.new.self
    c.in_ok-answers.ensures.answers c.in_ok-answers.ensures.all c.pass_position.ensures c.stand.ensures c.atom-position.ensures.position
