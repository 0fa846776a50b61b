use Rattle.std.proofs.Common.{◌+◌, List, subst}
use Rattle.std.specs.Prelude.{Contains}
use Rattle.cc_defs.specs.Clauses.{Literal}
use Rattle.cc_kernel.specs.Kernels.{clauses_of}
use Rattle.cc_tests_clauses.proofs.Having.{contains_numbered}
use Rattle.cc_tests_clauses.proofs.cdcl.has.Goals as goal

pub returns-then-is_same_clause : goal.returns-then-is_same_clause
returns-then-is_same_clause c yes_is =
    subst (λ (clause : List Literal). Contains (clauses_of c.args.kernel.now) clause) (c.is_same_clause.ensures c.if-is_same_clause.true)
    (contains_numbered (clauses_of c.args.kernel.now) (c.loop-index.index + 1) c.clause.result.now c.clause.ensures.clause)
