use Rattle.std.proofs.Common.{[], ◌∷◌, map, subst}
use Rattle.cc_defs.specs.ClauseForms.{all_written}
use Rattle.cc_defs.specs.Clauses.{Literal, opposite}
use Rattle.cc_form.specs.Store.{Gives}
use Rattle.cc_form.proofs.Definitions.{write_both}
use Rattle.cc_form.proofs.defining.define_any.Goals as goal

pub returns : goal.returns
returns c = write_both c.write_with_each_opposite.result c.args.store.now.kept c.write_all_of.new.store.kept c.write_with_each_opposite.new.store.kept
    ((opposite c.args.x ∷ c.args.literals.now) ∷ []) (map (λ literal. c.args.x ∷ opposite literal ∷ []) c.args.literals.now)
    (subst (λ (l : Literal). Gives c.args.store.now.kept c.write_all_of.new.store.kept (all_written ((l ∷ c.args.literals.now) ∷ []))) c.opposite.ensures c.in_ok-write_all_of.ensures)
    c.write_with_each_opposite.ensures
