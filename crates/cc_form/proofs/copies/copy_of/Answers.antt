use Rattle.std.proofs.Common.{◌∙◌, ◌++◌, ◌∷◌, [], List, ap, sym}
use Rattle.cc_defs.specs.Clauses.{Literal}
use Rattle.cc_form.proofs.Copying.{taken_more}
use Rattle.cc_form.proofs.copies.copy_of.Goals as goal

pub loop-index-preserved : goal.loop-index-preserved
loop-index-preserved c =
    c.in_ok-push.ensures.pushed ∙ ap (λ (l : List (List Literal)). l ++ c.clause.result.now ∷ []) c.loop-index.invariant
    ∙ sym (taken_more c.args.clauses.now c.loop-index.index c.clause.result.now c.clause.ensures)
