use Rattle.std.proofs.Common.{refl, IfErr, OnOk, length, subst}
use Rattle.cc_defs.specs.Terms.{postfix}
use Rattle.cc_defs.specs.Resolved.{plain_term}
use Rattle.cc_ground.specs.Bindings.{environment_of}
use Rattle.cc_ground.specs.Views.{HasPut, LacksRoom, plain_side, universe_in}
use Rattle.cc_ground.proofs.Putting.{sides_as}
use Rattle.cc_ground.proofs.maker.Maker.put_equation.Goals as goal

pub returns-clause-put : goal.returns-clause-put
returns-clause-put c =
    subst (λ equation. OnOk c.put_sides.result (HasPut (postfix equation) c.args.self.now c.put_sides.new.self))
    (sides_as (universe_in c.args.self.now) (environment_of c.args.self.now.env) (environment_of c.args.self.now.env) (environment_of c.args.self.now.env) (plain_term c.args.left.now) (plain_term c.args.right.now) (plain_side c.in_ok-left.left) (plain_side c.in_ok-right.right)
    refl refl c.in_ok-left.ensures c.in_ok-right.ensures)
    c.put_sides.ensures.put

pub returns-clause-full : goal.returns-clause-full
returns-clause-full c =
    subst (λ equation. IfErr c.put_sides.result (LacksRoom (length (postfix equation)) c.args.self.now.room))
    (sides_as (universe_in c.args.self.now) (environment_of c.args.self.now.env) (environment_of c.args.self.now.env) (environment_of c.args.self.now.env) (plain_term c.args.left.now) (plain_term c.args.right.now) (plain_side c.in_ok-left.left) (plain_side c.in_ok-right.right)
    refl refl c.in_ok-left.ensures c.in_ok-right.ensures)
    c.put_sides.ensures.full
