use Rattle.std.proofs.Common.{List, subst}
use Rattle.std.specs.List.{Contains}
use Rattle.cc_defs.specs.ClauseLists.{positions_from}
use Rattle.cc_defs.specs.Clauses.{Literal}
use Rattle.cc_defs.specs.Sections.{Axioms}
use Rattle.cc_form.proofs.form.Form.sizes.Goals as goal

pub returns-clause-choices : goal.returns-clause-choices
returns-clause-choices c =
    subst (λ (f : Axioms). (clause : List Literal) → Contains (positions_from 1 f.sizes) clause → Contains f.clauses clause) c.self.view_is c.self.invariant.axioms.choices
