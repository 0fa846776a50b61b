use Rattle.std.proofs.Common.{◌∙◌, ℕ, ap, min}
use Rattle.cc_ground.specs.Counting.{instances_of_all}
use Rattle.cc_ground.proofs.FromDeclarations.{of_declarations}
use Rattle.cc_ground.proofs.counts.count_instances.Goals as goal

pub returns : goal.returns
returns c = λ declarations is of.
    c.count_all.ensures
    ∙ ap (λ (count : ℕ). min count 1000001) (of_declarations instances_of_all c.args.table.now declarations c.args.sig.now _ _ is of c.items.ensures)
