use Rattle.std.proofs.lemmas.Bool.{eqb-false}
use Rattle.std.proofs.Common.{eqb-true, length, sym, ◌∙◌}
use Rattle.cc_run.proofs.Converted.{some_left, telling_begins, telling_ends, telling_next, telling_stops}
use Rattle.cc_run.proofs.modes.convert.give_lines.Goals as goal

pub loop-rest-init : goal.loop-rest-init
loop-rest-init g c = λ d q said of left. telling_begins d q c.args.prepared.now.key c.args.version said c.args.bytes.now _ left

pub returns-in_err-next : goal.returns-in_err-next
returns-in_err-next g c = λ d q said of left.
    let tells = c.loop-rest.invariant d q said of left in
    let some = some_left (length c.loop-rest.rest.now) (eqb-false (length c.loop-rest.rest.now) 0 (sym c.is_empty.ensures ∙ c.loop-rest-test.true)) in
    telling_stops d q c.args.prepared.now.key c.args.version said c.loop-rest.own c.loop-rest.rest.now _ _ tells some _
    c.give_line.result c.in_err-next.field-0.0 c.from_residual.result (λ line others first. c.give_line.ensures.told d q line others of first)
    c.in_err-next.was c.from_residual.ensures.1

pub loop-rest-preserved : goal.loop-rest-preserved
loop-rest-preserved g c = λ d q said of left.
    let tells = c.loop-rest.invariant d q said of left in
    let some = some_left (length c.loop-rest.rest.now) (eqb-false (length c.loop-rest.rest.now) 0 (sym c.is_empty.ensures ∙ c.loop-rest-test.true)) in
    telling_next d q c.args.prepared.now.key c.args.version said c.loop-rest.own c.loop-rest.rest.now _ _ tells some _
    c.give_line.result _ c.in_ok-next.next c.in_ok-next.behind.now (λ line others first. c.give_line.ensures.told d q line others of first)
    c.in_ok-next.was (λ line others first. c.in_ok-next.ensures.left d q line others of first)

pub returns : goal.returns
returns g c = λ d q said of left.
    telling_ends d q c.args.prepared.now.key c.args.version said c.loop-rest.own c.loop-rest.rest.now _ _ (c.loop-rest.invariant d q said of left) _
    (eqb-true (length c.loop-rest.rest.now) 0 (sym c.is_empty.ensures ∙ c.loop-rest-test.false))
