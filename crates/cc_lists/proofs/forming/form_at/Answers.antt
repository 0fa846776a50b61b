use Rattle.std.proofs.Common.{◌≡◌, ℕ, Bor, None, subst}
use Rattle.std.specs.Prelude.{IfErr, IfOk, OnOk}
use Rattle.cc_defs.specs.declared.lists.Key.{Key}
use Rattle.std.specs.Option.{option_map}
use Rattle.cc_defs.specs.ClauseLists.{clause_list}
use Rattle.cc_defs.specs.Refusals.{IsRefusedBy}
use Rattle.cc_form.specs.Forms.{TellsHistories, asked, form_of, form_refusal}
use Rattle.cc_theory.specs.Theories.{rules_refusal}
use Rattle.cc_lists.proofs.FormedAt.{refused_behind, rules_within, told_of, within_both}
use Rattle.cc_lists.proofs.forming.form_at.Goals as goal

pub returns-clause-refused : goal.returns-clause-refused
returns-clause-refused c = λ d q laws stands.
    refused_behind c.clauses.result (rules_refusal d c.args.horizon)
    (form_refusal (clause_list d q c.args.horizon c.args.with_claim (option_map (λ key. key.now) c.args.after)))
    (rules_within d c.args.horizon (c.in_ok-theory.ensures.few d laws))
    (subst (λ (n : ℕ). IfErr c.clauses.result (IsRefusedBy (form_refusal (clause_list d q n c.args.with_claim (option_map (λ key. key.now) c.args.after)))))
    c.in_ok-theory.ensures.horizon
    (c.clauses.ensures.refused d q (c.in_ok-theory.ensures.of d laws) stands))

pub returns-clause-made : goal.returns-clause-made
returns-clause-made c = λ d q laws stands.
    subst (λ (n : ℕ). IfOk c.clauses.result (λ form. form ≡ form_of d q n c.args.with_claim (option_map (λ (key : Bor Key). key.now) c.args.after)))
    c.in_ok-theory.ensures.horizon (c.clauses.ensures.list d q (c.in_ok-theory.ensures.of d laws) stands)

pub returns-clause-tells : goal.returns-clause-tells
returns-clause-tells c = λ d q laws stands.
    subst (λ (n : ℕ). OnOk c.clauses.result (TellsHistories d (asked c.args.with_claim q) n (option_map (λ (key : Bor Key). key.now.row) c.args.after)
    (form_of d q n c.args.with_claim (option_map (λ (key : Bor Key). key.now) c.args.after))))
    c.in_ok-theory.ensures.horizon
    (told_of c.clauses.result (λ form. TellsHistories d (asked c.args.with_claim q) c.in_ok-theory.theory.horizon (option_map (λ (key : Bor Key). key.now.row) c.args.after) form)
    (form_of d q c.in_ok-theory.theory.horizon c.args.with_claim (option_map (λ (key : Bor Key). key.now) c.args.after))
    (c.clauses.ensures.list d q (c.in_ok-theory.ensures.of d laws) stands) (c.clauses.ensures.tells d q (c.in_ok-theory.ensures.of d laws) stands))

pub returns-clause-within : goal.returns-clause-within
returns-clause-within c = λ d q laws stands.
    within_both c.clauses.result (rules_refusal d c.args.horizon)
    (form_refusal (clause_list d q c.args.horizon c.args.with_claim (option_map (λ (key : Bor Key). key.now) c.args.after)))
    (rules_within d c.args.horizon (c.in_ok-theory.ensures.few d laws))
    (subst (λ (n : ℕ). OnOk c.clauses.result (form_refusal (clause_list d q n c.args.with_claim (option_map (λ (key : Bor Key). key.now) c.args.after)) ≡ None))
    c.in_ok-theory.ensures.horizon
    (c.clauses.ensures.within d q (c.in_ok-theory.ensures.of d laws) stands))

pub clauses-requires-clause-key : goal.clauses-requires-clause-key
clauses-requires-clause-key c = rw (c.in_ok-theory.ensures.signature, c.in_ok-theory.ensures.horizon) c.requires.key

pub clauses-requires-clause-query : goal.clauses-requires-clause-query
clauses-requires-clause-query c = rw (c.in_ok-theory.ensures.signature, c.in_ok-theory.ensures.horizon) c.requires.query
