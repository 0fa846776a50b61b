use Rattle.std.proofs.Common.{◌≡◌, IfOk, subst}
use Rattle.cc_defs.specs.Resolved.{Head, plain_head, plain_term}
use Rattle.cc_wide_ground.proofs.Copied.{sides_are}
use Rattle.cc_wide_ground.proofs.bases.head_of_sides.Goals as goal

pub returns-in-Constant : goal.returns-in-Constant
returns-in-Constant c =
    subst (λ (made : Head). IfOk c.head_of_constant.result (λ head. plain_head head ≡ made))
    (sides_are c.args.side.now c.in-Constant.symbol c.in-Constant.args c.deref.result.now (plain_term c.args.value.now) c.in-Constant.is c.deref.ensures.value)
    c.head_of_constant.ensures
