use Rattle.std.proofs.Common.{arith}
use Rattle.cc_clauses.proofs.Views.{count_is}
use Rattle.cc_clauses.proofs.arena.ClauseArena.clause.Goals as goal

pub clause_at-requires-clause-within : goal.clause_at-requires-clause-within
clause_at-requires-clause-within c =
    let count = count_is c.self.inside c.args.self.now c.self.view_is in
    rw c.deref-2.ensures.value (omega arith)
