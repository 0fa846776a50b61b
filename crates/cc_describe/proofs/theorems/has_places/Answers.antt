use Rattle.std.proofs.Common.{[]}
use Rattle.cc_defs.specs.declared.refusal.LimitAt.TheVariants.{IncludeDepth}
use Rattle.cc_defs.specs.Limits.{limit_number}
use Rattle.cc_describe.proofs.HasPlaces.{places_exist}
use Rattle.cc_describe.proofs.theorems.has_places.Goals as goal

pub returns : goal.returns
returns c = λ files name. places_exist c.cut_or_stop.ensures c.statements_are_tokens.ensures c.tree_or_refusal.ensures (limit_number IncludeDepth) files [] 0 name
