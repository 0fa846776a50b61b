use Rattle.std.proofs.lemmas.Bool.{eqb-true}
use Rattle.std.proofs.Common.{length, sym, arith}
use Rattle.cc_check.proofs.Literals.{empty_there, none_empty}
use Rattle.cc_check.proofs.clauses.has_empty.Goals as goal

pub returns-then-is_empty : goal.returns-then-is_empty
returns-then-is_empty c = empty_there c.args.form.now.clauses _ c.clause.result.now c.clause.ensures.numbered.1 (eqb-true (length c.clause.result.now) 0 (sym c.if-is_empty.ensures))

pub returns : goal.returns
returns c = none_empty c.args.form.now.clauses c.loop-index.index (omega arith) c.loop-index.invariant
