use Rattle.std.proofs.Common.{◌↔◌, ◌∙◌, List, IsTrue, ap, subst}
use Rattle.std.specs.Prelude.{Contains}
use Rattle.cc_defs.specs.Clauses.{Literal}
use Rattle.cc_stage.specs.Marks.{clause_of}
use Rattle.cc_stage.proofs.stage.Stage.has.Goals as goal

pub returns : goal.returns
returns c = subst (λ (ls : List Literal). IsTrue c.has.result ↔ Contains ls c.args.literal) (ap clause_of c.deref.ensures.value ∙ c.self.view_is) c.has.ensures
