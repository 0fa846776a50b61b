use Rattle.std.proofs.Common.{Bor, ℕ, List, Option, option_map}
use Rattle.cc_arena.specs.GroundViews.{plain_ground_query}
use Rattle.cc_defs.specs.declared.lists.Key.{Key}
use Rattle.cc_defs.specs.ClauseLists.{clause_list}
use Rattle.cc_theory.specs.Making.{rules_for}
use Rattle.cc_theory.specs.Theories.{PlainTheory, rules_refusal}
use Rattle.cc_form.specs.Forms.{TellsHistories, asked, form_of, form_refusal}
use Rattle.cc_form.specs.Queries.{section_list}
use Rattle.cc_form.proofs.Finishing.{form_is, form_refused, form_within, key_fits_at, key_rows_at, tells_is, variables_refused}
use Rattle.cc_form.proofs.Joining.{err_form, refused_so, rules_few, told_so, within_so}
use Rattle.cc_form.proofs.template.put_together.Goals as goal

pub returns-in_err-writer : goal.returns-in_err-writer
returns-in_err-writer c =
    let t : PlainTheory = record { signature = c.args.sig.now; horizon = c.args.horizon; rules = rules_for c.args.sig.now c.args.laws.now c.args.horizon } in
    let plain = plain_ground_query c.args.query.now in
    let w = c.args.with_claim in
    let key : Option Key = option_map (λ (k : Bor Key). k.now) c.args.after in
    let row : Option (List ℕ) = option_map (λ (k : Bor Key). k.now.row) c.args.after in
    let give = c.laws_give_rules.ensures c.args.sig.now c.args.laws.now c.requires.laws c.args.horizon in
    let most = c.requires.most in
    let fits = give.fit in
    let keys = key_fits_at t.signature t.horizon c.args.after c.requires.key in
    err_form c.args.sig.now c.args.laws.now c.args.horizon plain w key row c.from_residual.result c.in_err-writer.field-0.0 c.from_residual.ensures.1 (λ d q of stands.
    refused_so c.from_residual.result (rules_refusal d c.args.horizon) (form_refusal (clause_list d q c.args.horizon w key)) (rules_few d c.args.horizon _ (give.long d of) c.requires.few)
    (variables_refused t plain w key most fits c.requires.query keys d q (give.theory d of) stands c.from_residual.result c.in_err-writer.field-0.0 c.from_residual.ensures.1 c.in_err-writer.ensures.refused))

pub returns : goal.returns
returns c =
    let t : PlainTheory = record { signature = c.args.sig.now; horizon = c.args.horizon; rules = rules_for c.args.sig.now c.args.laws.now c.args.horizon } in
    let plain = plain_ground_query c.args.query.now in
    let w = c.args.with_claim in
    let key : Option Key = option_map (λ (k : Bor Key). k.now) c.args.after in
    let row : Option (List ℕ) = option_map (λ (k : Bor Key). k.now.row) c.args.after in
    let give = c.laws_give_rules.ensures c.args.sig.now c.args.laws.now c.requires.laws c.args.horizon in
    let most = c.requires.most in
    let fits = give.fit in
    let keys = key_fits_at t.signature t.horizon c.args.after c.requires.key in
    let writer = c.in_ok-writer.writer in
    let built = c.in_ok-writer.ensures.built in
    let section = section_list t plain w key in
    record {
      made = λ d q of stands.
          form_is t plain w key most fits c.requires.query keys d q (give.theory d of) stands c.close.result writer built (c.close.ensures.form section.clauses built.holds);
      tells = λ d q of stands.
          let is = form_is t plain w key most fits c.requires.query keys d q (give.theory d of) stands c.close.result writer built (c.close.ensures.form section.clauses built.holds) in
          told_so c.close.result (λ form. TellsHistories d (asked w q) c.args.horizon row form) (form_of d q c.args.horizon w key) is
          (tells_is t plain w key most fits c.requires.query keys d q (give.theory d of) stands c.close.result row
          c.models_meet_completion.ensures c.models_are_paths.ensures c.terms_mean_formulas.ensures c.one_formula.ensures c.clauses_tell_rows.ensures (key_rows_at c.args.after) is);
      within = λ d q of stands.
          within_so c.close.result (rules_refusal d c.args.horizon) (form_refusal (clause_list d q c.args.horizon w key)) (rules_few d c.args.horizon _ (give.long d of) c.requires.few)
          (form_within t plain w key most fits c.requires.query keys d q (give.theory d of) stands c.close.result built.within (c.close.ensures.few section.clauses built.holds));
      refused = λ d q of stands.
          refused_so c.close.result (rules_refusal d c.args.horizon) (form_refusal (clause_list d q c.args.horizon w key)) (rules_few d c.args.horizon _ (give.long d of) c.requires.few)
          (form_refused t plain w key most fits c.requires.query keys d q (give.theory d of) stands c.close.result built.within (c.close.ensures.refused section.clauses built.holds));
    }
