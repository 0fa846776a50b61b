use Rattle.cc_laws.proofs.LoneTerms.{single_by}
use Rattle.cc_laws.proofs.sums.is_single.Goals as goal

pub returns : goal.returns
returns c = single_by c.args.sum.now c.as_slice.result.now c.is_empty.result c.is_empty.ensures c.as_slice.ensures.value
