use Rattle.std.proofs.Common.{◌∙◌, sym, subst}
use Rattle.std.specs.List.{AllByRecursion}
use Rattle.cc_defs.specs.Clauses.{IsLiteralOver}
use Rattle.cc_dimacs.proofs.Atoms.{atoms_over, clause_at, one_more}
use Rattle.cc_dimacs.proofs.form.write_clauses.Goals as goal

pub clause-requires-in-loop-index : goal.clause-requires-in-loop-index
clause-requires-in-loop-index c =
    subst (AllByRecursion (IsLiteralOver c.loop-index.draft.last)) (sym (c.deref.ensures.value ∙ c.in_ok-fill_atoms.ensures))
    (atoms_over c.args.variables c.loop-index.draft.last c.clause.result.now c.loop-index.invariant.0
    (clause_at c.args.variables c.args.clauses.now c.loop-index.index c.clause.result.now c.requires.over c.clause.ensures))

pub loop-index-preserved : goal.loop-index-preserved
loop-index-preserved c = (
  c.in_ok-clause.ensures.last ∙ c.loop-index.invariant.0,
  one_more c.args.draft.now c.loop-index.draft c.clause-in-loop-index.new.self c.args.clauses.now c.loop-index.index c.clause.result.now c.deref.result.now c.clause.ensures
      (c.deref.ensures.value ∙ c.in_ok-fill_atoms.ensures) c.loop-index.invariant.1 c.in_ok-clause.ensures.draft,
)
