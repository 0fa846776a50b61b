use Rattle.std.proofs.Common.{◌∙◌, leb, rules}
use Rattle.std.proofs.lemmas.List.Sorted.{IsPartitionPoint-from_clause, IsPartitionedBy-leb}
use Rattle.cc_defs.specs.Clauses.{Literal}
use Rattle.cc_clauses.proofs.Halves.{higher_is_back, variables_ascend}
use Rattle.cc_clauses.proofs.resolution.higher_part.Goals as goal

pub returns : goal.returns
returns c =
    c.split_at.ensures.back ∙
    higher_is_back c.args.clause.now c.args.pivot c.partition_point-place.result
    (IsPartitionPoint-from_clause (λ (y : Literal). leb y.variable c.args.pivot) c.args.clause.now c.partition_point-place.result
    c.partition_point-place.ensures.partitioned
    (IsPartitionedBy-leb (λ (y : Literal). y.variable) c.args.clause.now c.args.pivot (variables_ascend c.args.clause.now c.requires))
    (λ a r g h. search rules))
