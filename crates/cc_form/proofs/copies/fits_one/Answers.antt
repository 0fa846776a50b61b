use Rattle.std.proofs.Common.{◌∙◌, ap, arith, Some, sym}
use Rattle.cc_form.proofs.Keeping.{counted_together}
use Rattle.cc_form.proofs.Rooms.{one_fits, one_too_long}
use Rattle.cc_form.proofs.copies.fits_one.Goals as goal

pub returns-then-literals-number-clause-refused : goal.returns-then-literals-number-clause-refused
returns-then-literals-number-clause-refused c = λ literal.
    let all = c.literals.ensures ∙ counted_together c.args.clauses.now in
    one_too_long c.args.clauses.now literal (omega arith) (omega arith) ∙ ap Some (sym c.past-then-literals-number.ensures)

pub returns-clause-within : goal.returns-clause-within
returns-clause-within c = λ literal.
    let all = c.literals.ensures ∙ counted_together c.args.clauses.now in
    one_fits c.args.clauses.now literal (omega arith) (omega arith)
