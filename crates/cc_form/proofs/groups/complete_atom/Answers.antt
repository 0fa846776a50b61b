use Rattle.std.proofs.Common.{◌∙◌, ℕ, List, sym, ap, subst, length}
use Rattle.std.specs.List.{AllByRecursion}
use Rattle.std.specs.Prelude.{◌<◌, slice_get, ◌≡◌}
use Rattle.cc_defs.specs.ClauseForms.{atom_variable, positive}
use Rattle.cc_defs.specs.ClauseLists.{bodies_of}
use Rattle.cc_form.specs.Making.{bodied, picked}
use Rattle.cc_form.proofs.Choices.{complete_is}
use Rattle.cc_form.proofs.Picking.{picked_is, causes_below}
use Rattle.cc_form.proofs.Standing.{atom_there}
use Rattle.cc_form.proofs.groups.complete_atom.Goals as goal

pub completion-requires : goal.completion-requires
completion-requires c =
    let t = c.args.theory.now in
    atom_there t.signature t.horizon c.args.position c.args.value c.requires.within.0
    (ap (λ (s : List ℕ). slice_get s c.args.position) (sym c.requires.places) ∙ c.requires.within.1) c.requires.within.2

pub pick-requires : goal.pick-requires
pick-requires c =
    subst (λ (l : List ℕ). AllByRecursion (λ number. number < length c.args.bodies.now) l) (sym c.completion.ensures)
    (causes_below c.args.theory.now.rules c.args.position c.args.value (length c.args.bodies.now) (sym c.requires.bodies))

pub returns : goal.returns
returns c =
    let t = c.args.theory.now in
    let are : c.pick.new.out.items ≡ picked c.args.bodies.now c.completion.result.now = c.in_ok-pick.ensures in
    complete_is c.define_any.result c.args.store.now.kept c.define_any.new.store.kept c.atom.result (positive (atom_variable c.args.places.now c.args.position c.args.value)) c.deref.result.now
    (bodies_of c.args.position c.args.value (bodied t.rules c.args.bodies.now)) c.atom.ensures
    (c.deref.ensures.value ∙ are ∙ ap (picked c.args.bodies.now) c.completion.ensures ∙ picked_is t.rules c.args.bodies.now c.args.position c.args.value c.requires.bodies) c.define_any.ensures
