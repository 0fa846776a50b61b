use Rattle.std.proofs.lemmas.List.{take-map, length-map}
use Rattle.cc_sorts.proofs.dictionary.Dictionary.pop.Goals as goal

pub returns : goal.returns
returns g c = rw (c.truncate.ensures.entries, c.saturating_sub-last.ensures, c.len.ensures.len, ← c.self.view_is, take-map, length-map)
