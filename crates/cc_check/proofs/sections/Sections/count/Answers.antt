use Rattle.std.proofs.Common.{arith, ap}
use Rattle.cc_check.specs.SectionTexts.{length_ahead}
use Rattle.cc_check.proofs.Places.{all_read, none_read, one_read}
use Rattle.cc_check.proofs.sections.Sections.count.Goals as goal

pub loop-count-init : goal.loop-count-init
loop-count-init c =
    let same = ap length_ahead c.again-rest.ensures.same in
    let few = c.again-rest.ensures.few in
    (none_read c.args.self.now c.again-rest.result c.again-rest.ensures.same, omega arith)

pub overflow_add-count : goal.overflow_add-count
overflow_add-count c =
    let read = c.loop-count.invariant.0.few in
    let few = c.loop-count.invariant.1 in
    let less = c.in-Some.ensures.shorter in
    omega arith

pub loop-count-preserved : goal.loop-count-preserved
loop-count-preserved c = (
  one_read c.args.self.now c.loop-count.rest c.loop-count.count c.loop-count.invariant.0 c.next.new.self c.in-Some.field-0 c.in-Some.ensures.next c.in-Some.ensures.shorter,
  c.loop-count.invariant.1,
)

pub returns : goal.returns
returns c = all_read c.args.self.now c.loop-count.rest c.loop-count.count c.loop-count.invariant.0 c.next.new.self c.in_default.ensures.next
