use Rattle.std.proofs.Common.{◌≡◌, ◌++◌, List, subst}
use Rattle.std.specs.Prelude.{OnOk}
use Rattle.cc_defs.specs.Clauses.{Literal}
use Rattle.cc_clauses.proofs.Merges.{merge_commutes}
use Rattle.cc_clauses.proofs.resolution.unite_into.Goals as goal

pub returns-else-a-b : goal.returns-else-a-b
returns-else-a-b c =
    subst (λ (merged : List Literal). OnOk c.merge_into-else-a-b.result (c.merge_into-else-a-b.new.out.items ≡ c.args.out.now.items ++ merged))
    (merge_commutes c.args.b.now c.args.a.now c.requires.b_is_clause c.requires.a_is_clause) c.merge_into-else-a-b.ensures
