use Rattle.std.proofs.Common.{◌≡◌, IfOk, List, ℕ, subst}
use Rattle.cc_defs.specs.ClauseForms.{true_variable}
use Rattle.cc_form.proofs.writer.Writer.over.Goals as goal

pub returns-clause-last : goal.returns-clause-last
returns-clause-last c = subst (λ (p : List ℕ). IfOk c.new.result (λ writer. writer.last ≡ true_variable p)) c.in_ok-sizes.ensures c.new.ensures.last
