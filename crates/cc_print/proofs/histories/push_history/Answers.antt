use Rattle.std.proofs.Common.{◌≡◌, ◌+◌, ◌-◌, ◌∙◌, drop, length, string_bytes, ap, sym, subst}
use Rattle.cc_defs.specs.Description.{sizes_at, stride}
use Rattle.cc_defs.specs.Rows.{IsRow}
use Rattle.cc_print.specs.Histories.{AreGiven, described}
use Rattle.cc_print.proofs.RowParts.{next_place, next_written, state_given, step_given}
use Rattle.cc_print.proofs.histories.push_history.Goals as goal

pub push_state-requires-clause-given : goal.push_state-requires-clause-given
push_state-requires-clause-given c = state_given c.args.table.now c.args.sig.now c.requires.named c.args.horizon 0 c.args.row.now c.requires.row

pub push_actions-requires-clause-given : goal.push_actions-requires-clause-given
push_actions-requires-clause-given c =
    (step_given c.args.table.now c.args.sig.now c.requires.named c.args.horizon c.loop-step.step c.loop-step.place c.args.row.now c.loop-step-test.true c.loop-step.invariant.rest).0

pub push_state-requires-in-loop-step-clause-given : goal.push_state-requires-in-loop-step-clause-given
push_state-requires-in-loop-step-clause-given c =
    let width : c.fluents.result + c.actions.result ≡ stride (described c.args.table.now c.args.sig.now) = ap (λ n. n + c.actions.result) c.fluents.ensures ∙ ap (λ n. length c.args.sig.now.fluents + n) c.actions.ensures in
    let rest = (step_given c.args.table.now c.args.sig.now c.requires.named c.args.horizon c.loop-step.step c.loop-step.place c.args.row.now c.loop-step-test.true c.loop-step.invariant.rest).1 in
    subst (λ n. AreGiven c.args.table.now c.args.row.now c.args.sig.now.fluents (c.loop-step.place + n)) (sym width)
    (state_given c.args.table.now c.args.sig.now c.requires.named (c.args.horizon - (c.loop-step.step + 1)) (c.loop-step.place + stride (described c.args.table.now c.args.sig.now)) c.args.row.now rest)

pub loop-step-preserved : goal.loop-step-preserved
loop-step-preserved c =
    let width : c.fluents.result + c.actions.result ≡ stride (described c.args.table.now c.args.sig.now) = ap (λ n. n + c.actions.result) c.fluents.ensures ∙ ap (λ n. length c.args.sig.now.fluents + n) c.actions.ensures in
    let rest = (step_given c.args.table.now c.args.sig.now c.requires.named c.args.horizon c.loop-step.step c.loop-step.place c.args.row.now c.loop-step-test.true c.loop-step.invariant.rest).1 in
    record {
      at = ap (λ n. c.loop-step.place + n) width ∙ next_place c.loop-step.step (stride (described c.args.table.now c.args.sig.now)) c.loop-step.place c.loop-step.invariant.at;
      written =
          next_written (described c.args.table.now c.args.sig.now) c.args.row.now c.loop-step.step (string_bytes c.args.text.now) (string_bytes c.loop-step.text) (string_bytes c.push_actions.new.text) (string_bytes c.push_state-in-loop-step.new.text)
          c.loop-step.invariant.written c.in_ok-push_actions.ensures c.in_ok-push_state-2.ensures;
      rest = subst (λ n. IsRow (sizes_at (described c.args.table.now c.args.sig.now) (c.args.horizon - (c.loop-step.step + 1))) (drop (c.loop-step.place + n) c.args.row.now)) (sym width) rest;
    }
