use Rattle.cc_lists.proofs.Positions.{row_in}
use Rattle.cc_lists.proofs.keys.is_row.Goals as goal

pub returns-clause-described : goal.returns-clause-described
returns-clause-described c = λ d of.
    let same = row_in d c.args.sig.now of c.args.horizon c.args.row.now in
    ((λ is. same.0 (c.has_indexes.ensures.0 is)), (λ row. c.has_indexes.ensures.1 (same.1 row)))
