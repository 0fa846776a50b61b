use Rattle.cc_form.proofs.Telling.{clauses_tell_rows}
use Rattle.cc_form.proofs.theorems.clauses_tell_rows.Goals as goal

pub returns : goal.returns
returns c = clauses_tell_rows
