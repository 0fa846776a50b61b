use Rattle.std.proofs.Common.{◌≡◌, Bool, IfOk, subst}
use Rattle.cc_defs.specs.Resolved.{plain_term}
use Rattle.cc_ground.specs.Bindings.{environment_of}
use Rattle.cc_ground.proofs.Testing.{related_so}
use Rattle.cc_ground.proofs.conditions.are_so.Goals as goal

pub returns : goal.returns
returns c =
    subst (λ (truth : Bool). IfOk c.stand.result (λ passed. passed ≡ truth))
    (related_so c.args.table.now (environment_of c.args.env.now) c.args.sign (plain_term c.args.left.now) (plain_term c.args.right.now) _ _ c.in_ok-left.ensures c.in_ok-right.ensures) c.stand.ensures
