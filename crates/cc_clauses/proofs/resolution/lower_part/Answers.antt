use Rattle.std.proofs.Common.{◌∙◌, ltb, rules}
use Rattle.std.proofs.lemmas.List.Sorted.{IsPartitionPoint-from_clause, IsPartitionedBy-ltb}
use Rattle.cc_defs.specs.Clauses.{Literal}
use Rattle.cc_clauses.proofs.Halves.{lower_is_front, variables_ascend}
use Rattle.cc_clauses.proofs.resolution.lower_part.Goals as goal

pub returns : goal.returns
returns c =
    c.split_at.ensures.front ∙
    lower_is_front c.args.clause.now c.args.pivot c.partition_point-place.result
    (IsPartitionPoint-from_clause (λ (y : Literal). ltb y.variable c.args.pivot) c.args.clause.now c.partition_point-place.result
    c.partition_point-place.ensures.partitioned
    (IsPartitionedBy-ltb (λ (y : Literal). y.variable) c.args.clause.now c.args.pivot (variables_ascend c.args.clause.now c.requires))
    (λ a r g h. search rules))
