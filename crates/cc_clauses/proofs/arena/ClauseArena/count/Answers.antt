use Rattle.std.proofs.Common.{◌∙◌}
use Rattle.cc_clauses.proofs.Views.{count_is}
use Rattle.cc_clauses.proofs.arena.ClauseArena.count.Goals as goal

pub returns : goal.returns
returns c = c.len.ensures ∙ c.self.inside.ends.ok.0 ∙ count_is c.self.inside c.args.self.now c.self.view_is
