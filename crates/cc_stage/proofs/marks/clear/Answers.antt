use Rattle.std.proofs.Common.{◌∙◌, ◌+◌, Bool, List, ap, drop, false, length, subst, sym}
use Rattle.std.proofs.lemmas.List.{length-set}
use Rattle.cc_stage.specs.Marks.{IsCovered}
use Rattle.cc_stage.proofs.Marked.{covered_cleared, none_left}
use Rattle.cc_stage.proofs.marks.clear.Goals as goal

pub loop-literal-preserved : goal.loop-literal-preserved
loop-literal-preserved c = (
  subst (λ (marks : List Bool). IsCovered marks (drop (c.loop-literal.literal-index + 1) c.args.touched.now)) (sym c.erase.ensures)
      (covered_cleared c.loop-literal.marks.items c.args.touched.now c.loop-literal.literal-index c.literal-item.result c.number.result c.loop-literal-test.true c.literal-item.is c.number.ensures.number
      c.loop-literal.invariant.0),
  ap length c.erase.ensures ∙ length-set c.loop-literal.marks.items c.number.result false ∙ c.loop-literal.invariant.1,
)

pub returns-clause-none : goal.returns-clause-none
returns-clause-none c = none_left c.loop-literal.marks.items c.args.touched.now c.loop-literal.literal-index c.loop-literal-test.false c.loop-literal.invariant.0
