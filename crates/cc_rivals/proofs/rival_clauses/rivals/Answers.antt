use Rattle.std.proofs.Common.{◌≡◌, ◌∙◌, ◌≤◌, IfErr, IfOk, List, None, OnOk, Option, Some, ap, arith, subst, sym, ℕ}
use Rattle.std.specs.Option.{option_or}
use Rattle.std.proofs.lemmas.Result.{IfOk-weaker}
use Rattle.cc_clauses.specs.Tells.{Tells}
use Rattle.cc_defs.specs.declared.refusal.Refusal.{Refusal}
use Rattle.cc_defs.specs.Refusals.{IsRefusedBy}
use Rattle.cc_defs.specs.Rows.{IsRow}
use Rattle.cc_defs.specs.Sections.{Axioms, row_denial}
use Rattle.cc_form.specs.Drafts.{IsDraft, axioms_refusal, with_clause}
use Rattle.cc_form.specs.Parts.{axioms_behind}
use Rattle.cc_form.specs.Places.{position_sizes}
use Rattle.cc_rivals.specs.Making.{rules_for, rules_past}
use Rattle.cc_rivals.specs.Wides.{AreWideLawsOf}
use Rattle.cc_rivals.proofs.Assembling.{err_any, ok_any, rivals_eq, rivals_refusal_is}
use Rattle.cc_rivals.proofs.Ending.{begun, ends_refused, ends_within, past_refuses, rivals_made}
use Rattle.cc_rivals.proofs.Matching.{rivals_told, sizes_are}
use Rattle.cc_rivals.proofs.rival_clauses.rivals.Goals as goal
use Rattle.cc_wide.specs.WideLaws.{frame}
use Rattle.cc_wide.specs.WideLists.{rival_axioms}
use Rattle.cc_wide.specs.WideRules.{IsRival}
use Rattle.cc_wide.specs.declared.ground.WideGroundLaw.{WideGroundLaw}

pub returns-in_err-draft-clause-refused : goal.returns-in_err-draft-clause-refused
returns-in_err-draft-clause-refused c = λ w of'.
    let sig = c.args.sig.now in
    let L = c.laws.result.now in
    let h = c.args.horizon in
    let row = c.args.row.now in
    let of = subst (λ (l : List WideGroundLaw). AreWideLawsOf sig l w) (sym c.laws.ensures) of' in
    let P = position_sizes sig h in
    let R = rules_for sig L h in
    let A = axioms_behind P (rivals_made P R row) in
    subst (λ (o : Option Refusal). IfErr c.from_residual.result (IsRefusedBy o)) (rivals_refusal_is sig L w of h row c.requires.row)
    (err_any c.from_residual.result c.in_err-draft.field-0.0 (IsRefusedBy (option_or (rules_past sig L h) (axioms_refusal A))) c.from_residual.ensures.1
    (c.in_err-draft.ensures.refused (axioms_refusal A) (λ fault past. past_refuses A (begun P R (Some row)).last fault (let e : A.variables ≤ A.variables = omega arith in e) past)))

pub returns-clause-made : goal.returns-clause-made
returns-clause-made c = λ w of'.
    let sig = c.args.sig.now in
    let L = c.laws.result.now in
    let h = c.args.horizon in
    let row = c.args.row.now in
    let of = subst (λ (l : List WideGroundLaw). AreWideLawsOf sig l w) (sym c.laws.ensures) of' in
    let P = position_sizes sig h in
    let R = rules_for sig L h in
    let draft = subst (λ (s : List ℕ). IsDraft P c.deny_row.new.draft (with_clause (begun P R (Some row)) (row_denial s row))) (c.deref.ensures.value ∙ c.in_ok-sizes.ensures)
    (c.in_ok-deny_row.ensures.draft P (begun P R (Some row)) c.in_ok-draft.ensures.draft) in
    subst (λ (a : Axioms). IfOk c.close.result (λ form. form ≡ a)) (rivals_eq sig L w of h row c.requires.row) (c.close.ensures.form P (rivals_made P R row) draft)

pub returns-clause-tells : goal.returns-clause-tells
returns-clause-tells c = λ w of.
    let sig = c.args.sig.now in
    let h = c.args.horizon in
    let row = c.args.row.now in
    ok_any c.close.result (Tells (rival_axioms w h row) (IsRival w h row))
    (rivals_told c.terms_mean_formulas.ensures sig c.args.laws.now w c.requires.laws of h row
    (subst (λ (s : List ℕ). IsRow s row) (sizes_are sig (frame w) h of.signature_is) c.requires.row))

pub returns-clause-within : goal.returns-clause-within
returns-clause-within c = λ w of'.
    let sig = c.args.sig.now in
    let L = c.laws.result.now in
    let h = c.args.horizon in
    let row = c.args.row.now in
    let of = subst (λ (l : List WideGroundLaw). AreWideLawsOf sig l w) (sym c.laws.ensures) of' in
    let P = position_sizes sig h in
    let R = rules_for sig L h in
    let draft = subst (λ (s : List ℕ). IsDraft P c.deny_row.new.draft (with_clause (begun P R (Some row)) (row_denial s row))) (c.deref.ensures.value ∙ c.in_ok-sizes.ensures)
    (c.in_ok-deny_row.ensures.draft P (begun P R (Some row)) c.in_ok-draft.ensures.draft) in
    subst (λ (o : Option Refusal). OnOk c.close.result (o ≡ None)) (rivals_refusal_is sig L w of h row c.requires.row)
    (ends_within c.close.result (rules_past sig L h) (axioms_behind P (rivals_made P R row)) c.in_ok-draft.ensures.few draft.within (c.close.ensures.within P (rivals_made P R row) draft))

pub returns-clause-refused : goal.returns-clause-refused
returns-clause-refused c = λ w of'.
    let sig = c.args.sig.now in
    let L = c.laws.result.now in
    let h = c.args.horizon in
    let row = c.args.row.now in
    let of = subst (λ (l : List WideGroundLaw). AreWideLawsOf sig l w) (sym c.laws.ensures) of' in
    let P = position_sizes sig h in
    let R = rules_for sig L h in
    let draft = subst (λ (s : List ℕ). IsDraft P c.deny_row.new.draft (with_clause (begun P R (Some row)) (row_denial s row))) (c.deref.ensures.value ∙ c.in_ok-sizes.ensures)
    (c.in_ok-deny_row.ensures.draft P (begun P R (Some row)) c.in_ok-draft.ensures.draft) in
    subst (λ (o : Option Refusal). IfErr c.close.result (IsRefusedBy o)) (rivals_refusal_is sig L w of h row c.requires.row)
    (ends_refused c.close.result (rules_past sig L h) (axioms_behind P (rivals_made P R row)) c.in_ok-draft.ensures.few draft.within (c.close.ensures.refused P (rivals_made P R row) draft))

pub returns-clause-sizes : goal.returns-clause-sizes
returns-clause-sizes c =
    let sig = c.args.sig.now in
    let row = c.args.row.now in
    let P = position_sizes sig c.args.horizon in
    let R = rules_for sig c.laws.result.now c.args.horizon in
    let draft = subst (λ (s : List ℕ). IsDraft P c.deny_row.new.draft (with_clause (begun P R (Some row)) (row_denial s row))) (c.deref.ensures.value ∙ c.in_ok-sizes.ensures)
    (c.in_ok-deny_row.ensures.draft P (begun P R (Some row)) c.in_ok-draft.ensures.draft) in
    IfOk-weaker c.close.result (λ form. form ≡ axioms_behind P (rivals_made P R row)) (λ form. form.sizes ≡ P) (λ form is. ap (λ (a : Axioms). a.sizes) is) (c.close.ensures.form P (rivals_made P R row) draft)
