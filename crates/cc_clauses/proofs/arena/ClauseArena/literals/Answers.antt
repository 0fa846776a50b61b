use Rattle.std.proofs.Common.{◌∙◌}
use Rattle.cc_clauses.proofs.Views.{literals_are}
use Rattle.cc_clauses.proofs.arena.ClauseArena.literals.Goals as goal

pub returns : goal.returns
returns c = c.len.ensures ∙ c.self.inside.all.ok.0 ∙ literals_are c.self.inside c.args.self.now c.self.view_is c.self.invariant
