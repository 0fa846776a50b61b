use Rattle.std.proofs.Common.{◌∙◌, sym}
use Rattle.cc_defs.specs.Declarations.{pairs}
use Rattle.cc_sorts.proofs.Below.{alone_below}
use Rattle.cc_sorts.proofs.left.Left.is_below.Goals as goal

pub returns : goal.returns
returns c = λ left is_left.
    c.eq.ensures
    ∙ sym (alone_below (pairs left) c.args.lower.now c.args.upper.now (is_left.uppers_are c.args.upper.now ∙ sym c.has_lower.ensures ∙ c.if-has_lower.false))
