use Rattle.cc_corollaries.proofs.Meanings.{finds_first}
use Rattle.cc_corollaries.proofs.theorems.forever_finds_the_first.Goals as goal

pub returns : goal.returns
returns c = finds_first c.one_list_of_places.ensures
