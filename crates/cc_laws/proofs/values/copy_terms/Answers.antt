use Rattle.cc_laws.proofs.Copies.{copied_more, copied_all}
use Rattle.cc_laws.proofs.values.copy_terms.Goals as goal

pub loop-term-preserved : goal.loop-term-preserved
loop-term-preserved c =
    copied_more c.args.terms.now _ _ _ _ _ _ c.loop-term-test.true c.term-item.is c.in_ok-push.ensures.items c.in_ok-copy_term.ensures c.loop-term.invariant

pub returns : goal.returns
returns c = copied_all c.args.terms.now c.loop-term.term-index c.loop-term.copies.items _ c.loop-term-test.false c.loop-term.invariant
