use Rattle.std.proofs.Common.{[]}
use Rattle.cc_defs.specs.declared.refusal.LimitAt.TheVariants.{IncludeDepth}
use Rattle.cc_defs.specs.Limits.{limit_number}
use Rattle.cc_describe.proofs.OnePlaces.{one_places}
use Rattle.cc_describe.proofs.theorems.one_list_of_places.Goals as goal

pub returns : goal.returns
returns c = λ files name places other a b. one_places c.one_cut.ensures c.one_stop.ensures c.cuts_or_stops.ensures c.one_tree.ensures (limit_number IncludeDepth) files [] 0 name places other a b
