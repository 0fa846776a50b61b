use Rattle.std.proofs.Common.{◌∙◌, List, ℕ, [], ◌++◌, map, sym}
use Rattle.cc_defs.specs.Environments.{choices, range_values}
use Rattle.cc_defs.specs.Resolved.{plain_law}
use Rattle.cc_ground.specs.Views.{universe_of}
use Rattle.cc_ground.proofs.Counted.{counts_none, no_law}
use Rattle.cc_ground.proofs.choosing.with_law.Goals as goal

pub returns-then-not-part_has_lists-clause-count : goal.returns-then-not-part_has_lists-clause-count
returns-then-not-part_has_lists-clause-count c =
    let u = universe_of c.args.table.now c.args.sig.now in
    counts_none c.args.count _ c.requires.few
    (no_law u (plain_law c.args.law.now) (sym c.has_lists.ensures ∙ c.if-not-has_lists.true) (sym c.part_has_lists.ensures ∙ c.if-not-part_has_lists.true)
    (map (λ (more : List ℕ). [] ++ more) (choices (map (range_values u) c.args.law.now.ranges))))
