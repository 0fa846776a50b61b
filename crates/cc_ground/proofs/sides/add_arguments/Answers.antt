use Rattle.cc_ground.specs.Bindings.{environment_of}
use Rattle.cc_ground.specs.Views.{bare_universe}
use Rattle.cc_ground.proofs.Meant.{args_end, args_more, args_none}
use Rattle.cc_ground.proofs.sides.add_arguments.Goals as goal

pub returns-in_default : goal.returns-in_default
returns-in_default c = args_none (bare_universe c.args.table.now) (environment_of c.args.env.now) c.args.terms.now c.loop-term.term-index c.loop-term.args.items c.term-item.result c.in_ok-object.field-0 c.loop-term-test.true c.term-item.is c.in_ok-object.ensures c.in_default.is c.loop-term.invariant

pub loop-term-preserved : goal.loop-term-preserved
loop-term-preserved c =
    args_more (bare_universe c.args.table.now) (environment_of c.args.env.now) c.args.terms.now c.loop-term.term-index c.loop-term.args.items c.push.new.self.items c.term-item.result c.in_ok-object.field-0 c.in-Some.object
    c.loop-term-test.true c.term-item.is c.in_ok-object.ensures c.in-Some.is c.in_ok-push.ensures.items c.loop-term.invariant

pub returns : goal.returns
returns c = args_end (bare_universe c.args.table.now) (environment_of c.args.env.now) c.args.terms.now c.loop-term.term-index c.loop-term.args.items c.loop-term-test.false c.loop-term.invariant
