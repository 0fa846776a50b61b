use Rattle.std.proofs.Common.{◌≡◌, OnOk, arith, length-append, string_bytes, subst}
use Rattle.cc_print.proofs.RowParts.{state_line}
use Rattle.cc_print.proofs.histories.push_state.Goals as goal

pub push_constants-requires-clause-within : goal.push_constants-requires-clause-within
push_constants-requires-clause-within c = omega (arith, c.fluents.ensures, length-append c.args.sig.now.fluents c.args.sig.now.actions)

pub returns : goal.returns
returns c =
    subst (λ whole. OnOk c.push_line_feed.result (string_bytes c.push_line_feed.new.text ≡ whole))
    (state_line c.args.table.now c.args.sig.now c.args.row.now c.args.step c.args.place c.requires.at _ _ _ _ _
    c.fluents.ensures c.in_ok-push_number.ensures c.in_ok-push_str.ensures.bytes c.in_ok-push_constants.ensures)
    c.push_line_feed.ensures
