use Rattle.std.proofs.Common.{arith, ◌∙◌, List, sym}
use Rattle.cc_stage.proofs.Marked.{item_in, with_next}
use Rattle.std.proofs.lemmas.List.{at_drop_all}
use Rattle.cc_defs.specs.Clauses.{Literal}
use Rattle.cc_stage.specs.Marks.{with_marks}
use Rattle.cc_stage.proofs.marks.put_all.Goals as goal

pub put_but-requires-clause-within : goal.put_but-requires-clause-within
put_but-requires-clause-within c =
    let low = c.requires.within c.literal-item.result (item_in c.args.clause.now c.loop-literal.literal-index c.literal-item.result c.loop-literal-test.true c.literal-item.is) in
    let same = c.loop-literal.invariant.same in omega arith

pub loop-literal-preserved : goal.loop-literal-preserved
loop-literal-preserved c = record {
  marks = with_next c.args.variable c.args.clause.now c.loop-literal.literal-index c.literal-item.result c.loop-literal.marks.items c.put_but.new.marks.items _ c.loop-literal-test.true
      c.literal-item.is c.put_but.ensures.marks c.loop-literal.invariant.marks;
  same = c.put_but.ensures.length ∙ c.loop-literal.invariant.same;
  room = let room = c.loop-literal.invariant.room in let low = c.loop-literal-test.true in omega (arith, c.put_but.ensures.len, c.put_but.ensures.capacity);
  covered = c.put_but.ensures.covered;
}

pub returns-clause-marks : goal.returns-clause-marks
returns-clause-marks c =
    sym (at_drop_all (λ (ls : List Literal). with_marks c.args.variable ls c.loop-literal.marks.items) c.args.clause.now c.loop-literal.literal-index c.loop-literal-test.false)
    ∙ c.loop-literal.invariant.marks
