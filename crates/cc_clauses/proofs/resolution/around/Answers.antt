use Rattle.std.proofs.Common.{◌+◌}
use Rattle.cc_clauses.proofs.Searches.{clause_behind, merged_around_found, merged_around_missed}
use Rattle.cc_clauses.proofs.resolution.around.Goals as goal

pub returns-in-Ok-clause-clause : goal.returns-in-Ok-clause-clause
returns-in-Ok-clause-clause c = clause_behind c.args.clause.now (c.in-Ok.place + 1) c.requires

pub returns-in-Ok-clause-merged : goal.returns-in-Ok-clause-merged
returns-in-Ok-clause-merged c =
    merged_around_found c.args.clause.now c.args.literal c.in-Ok.place c.requires c.in-Ok.ensures.bound c.in-Ok.ensures.position

pub returns-in-Err-clause-clause : goal.returns-in-Err-clause-clause
returns-in-Err-clause-clause c = clause_behind c.args.clause.now c.in-Err.place c.requires

pub returns-in-Err-clause-merged : goal.returns-in-Err-clause-merged
returns-in-Err-clause-merged c = merged_around_missed c.args.clause.now c.args.literal c.in-Err.place c.requires c.in-Err.ensures.position
