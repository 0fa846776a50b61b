use Rattle.std.proofs.Common.{List, subst, sym}
use Rattle.cc_defs.specs.Clauses.{Literal, Clash}
use Rattle.cc_stage.proofs.stage.Stage.resolve.Goals as goal

pub resolve_with-requires-clause-clash : goal.resolve_with-requires-clause-clash
resolve_with-requires-clause-clash c = subst (λ (a : List Literal). Clash a c.args.clause.now c.args.pivot) (sym c.self.view_is) c.requires.clash
