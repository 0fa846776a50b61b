use Rattle.std.proofs.Common.{rules}
use Rattle.cc_clauses.specs.Merging.{is_lower, is_higher}
use Rattle.cc_clauses.proofs.Merges.{filter_clause}
use Rattle.cc_clauses.proofs.Resolvents.{written_resolvent}
use Rattle.cc_clauses.proofs.resolution.resolve_into.Goals as goal

pub unite_into-requires-clause-a_is_clause : goal.unite_into-requires-clause-a_is_clause
unite_into-requires-clause-a_is_clause c = rw c.lower_part.ensures (filter_clause (is_lower c.args.pivot) c.args.a.now c.requires.a_is_clause)

pub unite_into-requires-clause-b_is_clause : goal.unite_into-requires-clause-b_is_clause
unite_into-requires-clause-b_is_clause c = rw c.lower_part-2.ensures (filter_clause (is_lower c.args.pivot) c.args.b.now c.requires.b_is_clause)

pub unite_into-requires-2-clause-a_is_clause : goal.unite_into-requires-2-clause-a_is_clause
unite_into-requires-2-clause-a_is_clause c = rw c.higher_part.ensures (filter_clause (is_higher c.args.pivot) c.args.a.now c.requires.a_is_clause)

pub unite_into-requires-2-clause-b_is_clause : goal.unite_into-requires-2-clause-b_is_clause
unite_into-requires-2-clause-b_is_clause c = rw c.higher_part-2.ensures (filter_clause (is_higher c.args.pivot) c.args.b.now c.requires.b_is_clause)

pub returns : goal.returns
returns c =
    written_resolvent c.args.a.now c.args.b.now c.args.pivot c.requires.a_is_clause c.requires.b_is_clause c.requires.clash
    c.unite_into-2.result c.reserve.new.self.items c.unite_into.new.out.items c.unite_into-2.new.out.items
    c.lower_part.result.now c.lower_part-2.result.now c.higher_part.result.now c.higher_part-2.result.now
    (search rules) c.in_ok-unite_into.ensures c.unite_into-2.ensures
    c.lower_part.ensures c.lower_part-2.ensures c.higher_part.ensures c.higher_part-2.ensures
