use Rattle.std.proofs.Common.{◌≡◌, IfOk, subst}
use Rattle.cc_defs.specs.Nodes.{side as side_of}
use Rattle.cc_ground.specs.Bindings.{environment_of}
use Rattle.cc_ground.specs.Views.{universe_of, plain_side}
use Rattle.cc_ground.proofs.Meant.{constant_by_args}
use Rattle.cc_ground.proofs.sides.term_side.Goals as goal

pub returns-in-Constant : goal.returns-in-Constant
returns-in-Constant c =
    subst (λ term. IfOk c.constant_side.result (λ side. plain_side side ≡ side_of (universe_of c.args.table.now c.args.sig.now) (environment_of c.args.env.now) term))
    (constant_by_args c.args.term.now c.in-Constant.symbol c.in-Constant.args c.deref.result.now c.in-Constant.is c.deref.ensures.value)
    c.constant_side.ensures
