use Rattle.std.proofs.Common.{◌++◌, List, ap, map, refl}
use Rattle.cc_defs.specs.declared.formula.Term as kept
use Rattle.cc_defs.specs.Resolved.{plain_term}
use Rattle.cc_wide_ground.proofs.Copied.{copied_all, copied_more}
use Rattle.cc_wide_ground.proofs.copies.copy_terms.Goals as goal

pub loop-term-init : goal.loop-term-init
loop-term-init c = ap (λ (l : List kept.Term). map plain_term l ++ map plain_term c.args.terms.now) c.in_ok-copies.ensures.items

pub loop-term-preserved : goal.loop-term-preserved
loop-term-preserved c =
    copied_more plain_term (map plain_term) plain_term (λ z zs. refl) c.args.terms.now c.loop-term.term-index c.term-item.result c.loop-term.copies.items c.push.new.self.items _ _
    c.loop-term-test.true c.term-item.is c.in_ok-copy_term.ensures c.in_ok-push.ensures.items c.loop-term.invariant

pub returns : goal.returns
returns c = copied_all plain_term (map plain_term) c.args.terms.now c.loop-term.term-index c.loop-term.copies.items _ refl c.loop-term-test.false c.loop-term.invariant
