use Rattle.std.proofs.Common.{ap}
use Rattle.cc_cdcl.specs.Solvers.{SolverView}
use Rattle.cc_sections.proofs.rows.deny.Goals as goal

pub returns : goal.returns
returns c = ap (λ (s : SolverView). s.standing) (c.in_ok-block_row.ensures.blocked c.requires.0 c.requires.1)
