use Rattle.std.proofs.Common.{Bor, ◌+◌, ◌≤◌, List, [], drop, get_or, map, refl, subst}
use Rattle.std.specs.List.{AllByRecursion}
use Rattle.cc_arena.specs.declared.ground_laws.GroundCondition.{GroundCondition}
use Rattle.cc_arena.specs.GroundViews.{plain_ground_condition}
use Rattle.cc_defs.specs.declared.node.Node.{Node}
use Rattle.cc_defs.specs.declared.signature.At.TheVariants.{Number}
use Rattle.cc_defs.specs.Histories.{step_of}
use Rattle.cc_defs.specs.Terms.{IsTermOver}
use Rattle.cc_form.specs.Making.{asserted_nodes}
use Rattle.cc_form.specs.Queries.{condition_nodes}
use Rattle.cc_form.proofs.Asserting.{AssertedSoFar, assert_fails, assert_step}
use Rattle.cc_form.proofs.Bodies.{front_at}
use Rattle.cc_form.proofs.Parts.{adds_err}
use Rattle.cc_form.proofs.Running.{front_mapped}
use Rattle.cc_form.proofs.section.assert_all.Goals as goal

abbrev no_nodes : Bor (List Node)
no_nodes = record { ref_ptr = (0, 0); now = [] }

abbrev none : GroundCondition
none = record { at = Number 0; nodes = no_nodes }

pub returns-in_err-literal : goal.returns-in_err-literal
returns-in_err-literal c =
    let b = c.args.writer.now in
    let i = c.loop-condition.condition-index in
    let f : GroundCondition → List Node = λ condition. condition_nodes c.args.stride c.args.horizon (plain_ground_condition condition) in
    let whole = map f c.args.conditions.now in
    let so = subst (λ (rest : List (List Node)). AssertedSoFar b c.loop-condition.writer rest whole) (front_mapped f c.args.conditions.now i none c.loop-condition-test.true) c.loop-condition.invariant.so in
    adds_err b c.literal_at.new.writer c.from_residual.result (asserted_nodes b.places b.last whole) c.in_err-literal.field-0.0 c.from_residual.ensures.1
    (assert_fails b c.loop-condition.writer (f (get_or c.args.conditions.now i none)) (drop (i + 1) whole) whole c.in_err-literal.field-0.0 so c.in_err-literal.ensures)

pub loop-condition-preserved : goal.loop-condition-preserved
loop-condition-preserved c =
    let b = c.args.writer.now in
    let i = c.loop-condition.condition-index in
    let f : GroundCondition → List Node = λ condition. condition_nodes c.args.stride c.args.horizon (plain_ground_condition condition) in
    let whole = map f c.args.conditions.now in
    let so = subst (λ (rest : List (List Node)). AssertedSoFar b c.loop-condition.writer rest whole) (front_mapped f c.args.conditions.now i none c.loop-condition-test.true) c.loop-condition.invariant.so in
    let fits = subst (AllByRecursion (λ condition. (step_of condition.at c.args.horizon ≤ 1000) × IsTermOver b.places (f condition))) (front_at c.args.conditions.now i none c.loop-condition-test.true) c.loop-condition.invariant.fit in
    record {
      so = assert_step b c.loop-condition.writer c.literal_at.new.writer _ c.in_ok-literal.literal (f (get_or c.args.conditions.now i none)) (drop (i + 1) whole) whole so
          c.in_ok-literal.ensures.0 c.in_ok-literal.ensures.1 refl refl c.in_ok-keep_one.ensures;
      fit = fits.1;
    }
