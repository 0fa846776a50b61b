use Rattle.std.proofs.Common.{◌↔◌, ◌∙◌, List, IsTrue, ap, subst}
use Rattle.cc_defs.specs.Clauses.{Literal, Clash}
use Rattle.cc_stage.specs.Marks.{clause_of}
use Rattle.cc_stage.proofs.stage.Stage.clashes.Goals as goal

pub returns : goal.returns
returns c =
    subst (λ (a : List Literal). IsTrue c.clash_on.result ↔ Clash a c.args.clause.now c.args.pivot) (ap clause_of c.deref.ensures.value ∙ c.self.view_is)
    c.clash_on.ensures
