use Rattle.std.proofs.Common.{◌++◌, ◌∷◌, [], IfErr, List, refl, ap, subst}
use Rattle.cc_defs.specs.ClauseForms.{atom_variable, positive}
use Rattle.cc_defs.specs.Clauses.{Literal}
use Rattle.cc_defs.specs.Refusals.{IsRefusedBy}
use Rattle.cc_defs.specs.Sections.{Axioms}
use Rattle.cc_form.specs.Building.{count_refusal}
use Rattle.cc_form.proofs.Rooms.{atom_placed, errs_as}
use Rattle.cc_form.proofs.form.Form.with_atom.Goals as goal

pub returns-in_err-fits_one-clause-refused : goal.returns-in_err-fits_one-clause-refused
returns-in_err-fits_one-clause-refused c =
    let own = positive (atom_variable c.args.self.now.sizes c.args.position c.args.value) ∷ [] in
    subst (λ (l : List (List Literal)). IfErr c.from_residual.result (IsRefusedBy (count_refusal (l ++ own ∷ [])))) (ap (λ (a : Axioms). a.clauses) c.self.view_is)
    (errs_as c.from_residual.result c.in_err-fits_one.field-0.0 (count_refusal (c.self.inside.clauses ++ own ∷ [])) c.from_residual.ensures.1
    (c.in_err-fits_one.ensures.refused (positive (atom_variable c.args.self.now.sizes c.args.position c.args.value))))

pub invariant_of-result : goal.invariant_of-result
invariant_of-result c =
    atom_placed c.self.inside.places c.in_ok-places.places c.self.inside.variables c.self.inside.clauses c.self.inside.clauses c.in_ok-clauses.clauses c.args.position c.args.value
    c.atom.result c.args.self.now c.self.view_is c.self.invariant c.in_ok-places.ensures refl c.in_ok-clauses.ensures c.atom.ensures c.requires.atom c.in_ok-fits_one.ensures.few
