use Rattle.std.proofs.Common.{◌∷◌, [], ◌∙◌, List, ap, subst}
use Rattle.std.specs.Prelude.{Contains}
use Rattle.cc_defs.specs.ClauseForms.{positive}
use Rattle.cc_defs.specs.Clauses.{Literal, opposite}
use Rattle.cc_kernel.specs.Kernels.{clauses_of}
use Rattle.cc_tests_clauses.proofs.Having.{pair_next}
use Rattle.cc_tests_clauses.proofs.cdcl.has_pairs_of.Goals as goal

pub loop-high-preserved : goal.loop-high-preserved
loop-high-preserved c = pair_next (clauses_of c.args.kernel.now) c.args.low c.loop-high.high (λ v. opposite (positive c.args.low) ∷ opposite v ∷ []) c.loop-high.auto.high c.loop-high.invariant
    (subst (λ (clause : List Literal). Contains (clauses_of c.args.kernel.now) clause)
    (ap (λ (l : Literal). l ∷ c.negative-in-loop-high.result ∷ []) c.negative.ensures ∙ ap (λ (l : Literal). opposite (positive c.args.low) ∷ l ∷ []) c.negative-in-loop-high.ensures)
    (c.has.ensures c.if-not-has.false))
