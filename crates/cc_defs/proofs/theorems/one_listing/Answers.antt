-- Two listings have the same members, in the same order.
use Rattle.cc_defs.proofs.Ascending.{same_members}
use Rattle.cc_defs.proofs.theorems.one_listing.Goals as goal

pub returns : goal.returns
returns c d q horizon key one other is_one is_other =
    same_members one other is_one.ascending is_other.ascending
    (λ row. ((λ c. (is_other.members row).1 ((is_one.members row).0 c)), (λ c. (is_one.members row).1 ((is_other.members row).0 c))))
