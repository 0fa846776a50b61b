use Rattle.std.proofs.Common.{◌≡◌, ℕ, Bor, None, option_map, refl, subst}
use Rattle.std.specs.Prelude.{IfErr, IfOk, OnOk}
use Rattle.cc_defs.specs.declared.lists.Key.{Key}
use Rattle.cc_defs.specs.ClauseLists.{clause_list}
use Rattle.cc_defs.specs.Refusals.{IsRefusedBy}
use Rattle.cc_theory.specs.Theories.{rules_refusal}
use Rattle.cc_form.specs.Forms.{TellsHistories, asked, form_of, form_refusal}
use Rattle.cc_form.proofs.Joining.{refused_so, rules_few, told_so, within_so}
use Rattle.cc_form.proofs.template.made.Goals as goal

pub returns : goal.returns
returns c = record {
  made = λ d q laws stands.
      subst (λ (n : ℕ). IfOk c.clauses.result (λ form. form ≡ form_of d q n c.args.with_claim (option_map (λ (key : Bor Key). key.now) c.args.after)))
      c.in_ok-theory.ensures.horizon (c.clauses.ensures.list d q (c.in_ok-theory.ensures.of d laws) stands);
  tells = λ d q laws stands.
      subst (λ (n : ℕ). OnOk c.clauses.result (TellsHistories d (asked c.args.with_claim q) n (option_map (λ (key : Bor Key). key.now.row) c.args.after)
      (form_of d q n c.args.with_claim (option_map (λ (key : Bor Key). key.now) c.args.after))))
      c.in_ok-theory.ensures.horizon
      (told_so c.clauses.result (λ form. TellsHistories d (asked c.args.with_claim q) c.in_ok-theory.theory.horizon (option_map (λ (key : Bor Key). key.now.row) c.args.after) form)
      (form_of d q c.in_ok-theory.theory.horizon c.args.with_claim (option_map (λ (key : Bor Key). key.now) c.args.after))
      (c.clauses.ensures.list d q (c.in_ok-theory.ensures.of d laws) stands) (c.clauses.ensures.tells d q (c.in_ok-theory.ensures.of d laws) stands));
  within = λ d q laws stands.
      within_so c.clauses.result (rules_refusal d c.args.horizon)
      (form_refusal (clause_list d q c.args.horizon c.args.with_claim (option_map (λ (key : Bor Key). key.now) c.args.after)))
      (rules_few d c.args.horizon _ refl (c.in_ok-theory.ensures.few d laws))
      (subst (λ (n : ℕ). OnOk c.clauses.result (form_refusal (clause_list d q n c.args.with_claim (option_map (λ (key : Bor Key). key.now) c.args.after)) ≡ None))
      c.in_ok-theory.ensures.horizon
      (c.clauses.ensures.within d q (c.in_ok-theory.ensures.of d laws) stands));
  refused = λ d q laws stands.
      refused_so c.clauses.result (rules_refusal d c.args.horizon)
      (form_refusal (clause_list d q c.args.horizon c.args.with_claim (option_map (λ key. key.now) c.args.after)))
      (rules_few d c.args.horizon _ refl (c.in_ok-theory.ensures.few d laws))
      (subst (λ (n : ℕ). IfErr c.clauses.result (IsRefusedBy (form_refusal (clause_list d q n c.args.with_claim (option_map (λ key. key.now) c.args.after)))))
      c.in_ok-theory.ensures.horizon
      (c.clauses.ensures.refused d q (c.in_ok-theory.ensures.of d laws) stands));
}
