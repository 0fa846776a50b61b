use Rattle.std.proofs.Common.{None, Ok, Result, refl}
use Rattle.std.specs.Prelude.{true}
use Rattle.cc_defs.specs.declared.refusal.Fault.{Fault}
use Rattle.cc_defs.specs.Sections.{Axioms}
use Rattle.cc_form.specs.Forms.{form_of}
use Rattle.cc_theory.specs.Making.{rules_for}
use Rattle.cc_theory.specs.Theories.{PlainTheory}
use Rattle.cc_form.proofs.Finishing.{tells_is}
use Rattle.cc_form.proofs.theorems.lists_tell_histories.Goals as goal

pub returns : goal.returns
returns c = λ signature laws query fit d q of stands horizon most asked.
    let t : PlainTheory = record { signature = signature; horizon = horizon; rules = rules_for signature laws horizon } in
    let give = c.laws_give_rules.ensures signature laws fit horizon in
    let made : Result Axioms Fault = Ok (form_of d q horizon true None) in
    tells_is t query true None most give.fit asked tt d q (give.theory d of) stands made None c.models_meet_completion.ensures c.models_are_paths.ensures
    c.terms_mean_formulas.ensures c.one_formula.ensures c.clauses_tell_rows.ensures refl refl
