use Rattle.std.proofs.Common.{Vec, Global, ap}
use Rattle.cc_defs.specs.declared.literal.Lit.{Lit}
use Rattle.cc_check.proofs.Literals.{stepped}
use Rattle.cc_check.proofs.clauses.step.Goals as goal

pub returns : goal.returns
returns c =
    stepped _ _ _ c.args.number c.args.pivot c.numbered-other.result.now c.deref.result.now _ _ c.in_ok-resolve_on.field-0 c.deref.ensures.value
    (ap (λ (v : Vec Lit Global). v.items) c.swap.ensures.x_after)
    c.requires.staged c.numbered-other.ensures.clause c.numbered-other.ensures.numbered c.if-not-branch.false c.in_ok-resolve_on.ensures
