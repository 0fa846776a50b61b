use Rattle.std.proofs.Common.{◌≡◌, Option, IfOk, subst}
use Rattle.cc_defs.specs.declared.node.GroundHead.{GroundHead}
use Rattle.cc_ground.specs.Views.{plain_side, universe_of}
use Rattle.cc_ground.specs.Bindings.{environment_of}
use Rattle.cc_ground.proofs.Meant.{head_as}
use Rattle.cc_ground.proofs.heads.head_under.Goals as goal

pub returns : goal.returns
returns c =
    let u = universe_of c.args.table.now c.args.sig.now in
    subst (λ (head : Option GroundHead). IfOk c.head_of_sides.result (λ found. found ≡ head))
    (head_as u (environment_of c.args.env.now) c.in-Atom.symbol c.in-Atom.args c.items.result.now c.in-Atom.value c.args.head.now (plain_side c.in_ok-left.left) (plain_side c.in_ok-right.right) c.in-Atom.is c.items.ensures
    c.in_ok-left.ensures c.in_ok-right.ensures) c.head_of_sides.ensures
