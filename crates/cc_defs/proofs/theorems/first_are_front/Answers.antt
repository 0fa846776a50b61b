-- A member of the listing is a history, and so it is told or comes later.
use Rattle.cc_defs.proofs.Ascending.{front}
use Rattle.cc_defs.proofs.theorems.first_are_front.Goals as goal

pub returns : goal.returns
returns c d q horizon key rows all first listing =
    front rows all first.ascending listing.ascending
    (λ row c. (listing.members row).1 (first.each row c))
    (λ row c. first.others row ((listing.members row).0 c))
