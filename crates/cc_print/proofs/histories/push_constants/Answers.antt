use Rattle.std.proofs.Common.{arith, ◌+◌, slice_index, string_bytes}
use Rattle.cc_print.specs.Histories.{named_by}
use Rattle.cc_print.proofs.RowParts.{first_given, one_shown, others_given, place_within}
use Rattle.cc_print.proofs.histories.push_constants.Goals as goal

pub constant-requires : goal.constant-requires
constant-requires c = omega (arith, c.requires.within)

pub overflow_add-index : goal.overflow_add-index
overflow_add-index c =
    omega (arith, place_within c.args.table.now c.args.sig.now c.args.row.now c.loop-number.number c.args.numbers.1 c.args.place c.loop-number-test.true c.requires.within c.loop-number.invariant.given)

pub offset_bounds-row-place : goal.offset_bounds-row-place
offset_bounds-row-place c =
    omega (arith, place_within c.args.table.now c.args.sig.now c.args.row.now c.loop-number.number c.args.numbers.1 c.args.place c.loop-number-test.true c.requires.within c.loop-number.invariant.given)

pub bounds-row-place : goal.bounds-row-place
bounds-row-place c =
    place_within c.args.table.now c.args.sig.now c.args.row.now c.loop-number.number c.args.numbers.1 c.args.place c.loop-number-test.true c.requires.within c.loop-number.invariant.given

pub push_shown-requires-clause-named : goal.push_shown-requires-clause-named
push_shown-requires-clause-named c =
    (first_given c.args.table.now c.args.sig.now c.args.row.now c.loop-number.number c.args.numbers.1 c.args.place c.constant.result.now c.loop-number-test.true c.requires.within c.constant.ensures c.loop-number.invariant.given).0

pub push_shown-requires-clause-within : goal.push_shown-requires-clause-within
push_shown-requires-clause-within c =
    (first_given c.args.table.now c.args.sig.now c.args.row.now c.loop-number.number c.args.numbers.1 c.args.place c.constant.result.now c.loop-number-test.true c.requires.within c.constant.ensures c.loop-number.invariant.given).2

pub loop-number-preserved : goal.loop-number-preserved
loop-number-preserved c =
    let given = first_given c.args.table.now c.args.sig.now c.args.row.now c.loop-number.number c.args.numbers.1 c.args.place c.constant.result.now c.loop-number-test.true c.requires.within c.constant.ensures c.loop-number.invariant.given in
    record {
      whole =
          one_shown (named_by c.args.table.now) c.args.sig.now c.loop-number.number c.args.numbers.1 c.constant.result.now c.loop-number-test.true c.requires.within c.constant.ensures
          (λ number. slice_index c.args.row.now (c.args.place + number)) (string_bytes c.loop-number.text) (string_bytes c.push_shown.new.text) _ c.in_ok-push_shown.ensures c.loop-number.invariant.whole;
      given = others_given c.args.table.now c.args.sig.now c.args.row.now c.loop-number.number c.args.numbers.1 c.args.place c.constant.result.now given;
    }
