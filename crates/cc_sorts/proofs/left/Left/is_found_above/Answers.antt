use Rattle.std.proofs.Common.{◌∙◌, rules}
use Rattle.cc_sorts.specs.Searches.{IsClosed}
use Rattle.cc_sorts.proofs.Upward.{found_is_below}
use Rattle.cc_sorts.proofs.left.Left.is_found_above.Goals as goal

pub returns : goal.returns
returns c = λ left is_left.
    let closed : IsClosed c.args.self.now c.args.lower.now c.search_above.new.found.keys = search rules in
    c.contains.ensures ∙ found_is_below c.args.self.now left c.args.lower.now c.args.upper.now c.search_above.new.found.keys closed is_left
