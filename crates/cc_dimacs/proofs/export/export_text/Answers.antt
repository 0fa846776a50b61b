use Rattle.cc_dimacs.proofs.Exporting.{one_line}
use Rattle.cc_dimacs.proofs.export.export_text.Goals as goal

pub loop-index-preserved : goal.loop-index-preserved
loop-index-preserved c = one_line c.args.form.now.clauses c.loop-index.index c.clause.result.now _ _ _ c.clause.ensures.numbered.1 c.loop-index.invariant c.in_ok-push_clause.ensures
