use Rattle.std.proofs.Common.{◌≡◌, ◌∙◌, ◌++◌, ℕ, List, IfOk, ap, min, subst, sym}
use Rattle.cc_defs.specs.Judged.{constants_of, those_meant}
use Rattle.cc_defs.specs.Resolved.{plain_term}
use Rattle.cc_ground.specs.Bindings.{environment_of}
use Rattle.cc_ground.specs.Pieces.{gathered}
use Rattle.cc_ground.specs.Views.{universe_of}
use Rattle.cc_ground.proofs.Counted.{lists_some}
use Rattle.cc_ground.proofs.choosing.lists_between.Goals as goal

pub returns : goal.returns
returns c =
    let constants = constants_of (plain_term c.args.left.now) ++ constants_of (plain_term c.args.right.now) in
    subst (λ (k : ℕ). IfOk c.product.result (λ count. count ≡ min k 16000001))
    (lists_some (universe_of c.args.table.now c.args.sig.now) (environment_of c.args.env.now) constants _ (sym c.have_constant.ensures ∙ c.if-not-have_constant.false) (c.deref.ensures.value ∙ c.in_ok-gather_both.ensures.constants
    ∙ ap (λ (l : List ℕ). gathered l (those_meant (universe_of c.args.table.now c.args.sig.now) (environment_of c.args.env.now) constants)) c.new-constants.ensures.items))
    c.product.ensures
