use Rattle.std.proofs.Common.{inl, inr, refl}
use Rattle.cc_check.proofs.Literals.{no_pivot}
use Rattle.cc_check.proofs.clauses.resolve_on.Goals as goal
use Rattle.cc_check.proofs.clauses.resolve_on.Goals.{then-pivot-eq0-via-then-pivot-eq0, then-pivot-eq0-via-else-pivot-eq0+then-pivot-variables}

pub returns-then-pivot-eq0 : goal.returns-then-pivot-eq0
returns-then-pivot-eq0 c =
    no_pivot c.args.variables c.args.clause.now c.args.other.now c.args.pivot c.requires.clause.1
    (elim c.then-pivot-eq0.branch [
      | then-pivot-eq0-via-then-pivot-eq0 w ↦ inl w.if-pivot-eq0.true
      | then-pivot-eq0-via-else-pivot-eq0+then-pivot-variables w ↦ inr w.if-pivot-variables.true
    ])

pub resolve_into-requires-clause-clash : goal.resolve_into-requires-clause-clash
resolve_into-requires-clause-clash c = c.if-not-clash_on.ensures.0 refl
