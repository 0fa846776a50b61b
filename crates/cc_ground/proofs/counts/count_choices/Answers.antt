use Rattle.std.proofs.Common.{◌≡◌, IfOk, ℕ, min, subst}
use Rattle.cc_ground.specs.Counting.{choices_of_all}
use Rattle.cc_ground.proofs.FromDeclarations.{of_declarations}
use Rattle.cc_ground.proofs.counts.count_choices.Goals as goal

pub returns : goal.returns
returns c = λ declarations is of.
    subst (λ (all : ℕ). IfOk c.choices_of_laws.result (λ count. count ≡ min all 16000001))
    (of_declarations choices_of_all c.args.table.now declarations c.args.sig.now _ _ is of c.items.ensures) c.choices_of_laws.ensures
