use Rattle.cc_defs.specs.Clauses.{IsClause, IsOver}
use Rattle.cc_kernel.proofs.Kernels.{clause_there}
use Rattle.cc_kernel.proofs.Views.{there_inside, numbered_here, sound_here}
use Rattle.cc_kernel.proofs.kernel.Kernel.clause.Goals as goal

pub numbered-requires-clause-most : goal.numbered-requires-clause-most
numbered-requires-clause-most c = there_inside c.self.inside c.args.self.now c.self.view_is c.args.id c.requires

pub returns-clause-clause : goal.returns-clause-clause
returns-clause-clause c = numbered_here c.self.inside c.args.self.now c.self.view_is c.args.id c.numbered.result.now c.numbered.ensures

facts : (c : goal.After-numbered) → IsClause c.numbered.result.now × IsOver c.args.self.now.variables c.numbered.result.now
facts c =
    clause_there c.args.self.now c.self.inside.empty c.args.id c.numbered.result.now
    (sound_here c.self.inside c.args.self.now c.self.view_is c.self.inside.empty c.self.invariant.sound)
    (numbered_here c.self.inside c.args.self.now c.self.view_is c.args.id c.numbered.result.now c.numbered.ensures)

pub returns-clause-is_clause : goal.returns-clause-is_clause
returns-clause-is_clause c = (facts c).0

pub returns-clause-over : goal.returns-clause-over
returns-clause-over c = (facts c).1
