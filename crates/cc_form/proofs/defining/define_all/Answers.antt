use Rattle.std.proofs.Common.{[], ◌∷◌, map, subst}
use Rattle.cc_defs.specs.ClauseForms.{all_written}
use Rattle.cc_defs.specs.Clauses.{Literal, opposite}
use Rattle.cc_form.specs.Store.{Gives}
use Rattle.cc_form.proofs.Definitions.{write_both}
use Rattle.cc_form.proofs.defining.define_all.Goals as goal

pub returns : goal.returns
returns c = write_both c.write_all_opposites.result c.args.store.now.kept c.write_with_each.new.store.kept c.write_all_opposites.new.store.kept
    (map (λ literal. opposite c.args.x ∷ literal ∷ []) c.args.literals.now) ((c.args.x ∷ map opposite c.args.literals.now) ∷ [])
    (subst (λ (l : Literal). Gives c.args.store.now.kept c.write_with_each.new.store.kept (all_written (map (λ literal. l ∷ literal ∷ []) c.args.literals.now))) c.opposite.ensures c.in_ok-write_with_each.ensures)
    c.write_all_opposites.ensures
