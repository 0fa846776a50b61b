use Rattle.std.proofs.Common.{◌∙◌, ◌++◌, List, ℕ, ap}
use Rattle.cc_rivals.proofs.Sizes.{step_last, step_more}
use Rattle.cc_rivals.proofs.positions.sizes_of.Goals as goal

pub loop-step-preserved : goal.loop-step-preserved
loop-step-preserved c = step_more c.args.sig.now c.args.horizon c.loop-step.step c.in_ok-each.each.items c.loop-step.sizes.items c.extend_from_slice.new.self.items _ c.loop-step-test.true
    c.in_ok-each.ensures (let e = c.in_ok-extend_from_slice.ensures.items in let d = c.deref.ensures.value in e ∙ ap (λ (l : List ℕ). c.loop-step.sizes.items ++ l) d) c.loop-step.invariant

pub returns : goal.returns
returns c = c.in_ok-add_fluents.ensures ∙ step_last c.args.sig.now c.args.horizon c.loop-step.step c.loop-step.sizes.items _ c.loop-step-test.false c.loop-step.invariant
