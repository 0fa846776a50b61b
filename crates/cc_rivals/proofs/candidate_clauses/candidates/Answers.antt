use Rattle.std.proofs.Common.{◌≡◌, ◌∙◌, ◌≤◌, ◌+◌, IfErr, IfOk, List, None, OnOk, Option, arith, length, map, option_map, refl, subst, sym}
use Rattle.std.specs.Option.{option_or}
use Rattle.cc_arena.specs.declared.ground_laws.GroundCondition.{GroundCondition}
use Rattle.cc_clauses.specs.Tells.{Tells}
use Rattle.cc_defs.specs.declared.refusal.Refusal.{Refusal}
use Rattle.cc_defs.specs.Refusals.{IsRefusedBy}
use Rattle.cc_defs.specs.Sections.{Axioms}
use Rattle.cc_defs.specs.Terms.{Ground}
use Rattle.cc_form.specs.Drafts.{axioms_refusal}
use Rattle.cc_form.specs.Parts.{axioms_behind}
use Rattle.cc_form.specs.Places.{position_sizes}
use Rattle.cc_rivals.specs.Making.{placed_condition, rules_for, rules_past, term_at}
use Rattle.cc_rivals.specs.Putting.{put_terms}
use Rattle.cc_rivals.specs.Wides.{AreWideLawsOf}
use Rattle.cc_rivals.proofs.Assembling.{claim_there, conditions_there, err_any, form_eq, ok_any, refusal_eq}
use Rattle.cc_rivals.proofs.Ending.{begun, candidates_made, ends_refused, ends_within, fails_refused, past_refuses}
use Rattle.cc_rivals.proofs.Folding.{claim_rises, terms_rise}
use Rattle.cc_rivals.proofs.Matching.{candidates_told}
use Rattle.cc_rivals.proofs.candidate_clauses.candidates.Goals as goal
use Rattle.cc_wide.specs.WideLists.{candidate_axioms}
use Rattle.cc_wide.specs.WideRules.{IsCandidate}
use Rattle.cc_wide.specs.declared.ground.WideGroundLaw.{WideGroundLaw}

pub returns-in_err-draft-clause-refused : goal.returns-in_err-draft-clause-refused
returns-in_err-draft-clause-refused c = λ w q of' stands.
    let sig = c.args.sig.now in
    let L = c.laws.result.now in
    let h = c.args.horizon in
    let query = c.args.query.now in
    let of = subst (λ (l : List WideGroundLaw). AreWideLawsOf sig l w) (sym c.laws.ensures) of' in
    let P = position_sizes sig h in
    let R = rules_for sig L h in
    let f : GroundCondition → Ground = λ condition. term_at (placed_condition (length sig.fluents + length sig.actions) h condition) in
    let C = map f query.conditions in
    let K = option_map f query.claim in
    let A = axioms_behind P (candidates_made P R C K) in
    let before = terms_rise P (begun P R None) C in
    let behind = claim_rises P (put_terms P (begun P R None) C) K in
    subst (λ (o : Option Refusal). IfErr c.from_residual.result (IsRefusedBy o)) (refusal_eq sig L w of h query q stands (length sig.fluents + length sig.actions) query.conditions refl refl)
    (err_any c.from_residual.result c.in_err-draft.field-0.0 (IsRefusedBy (option_or (rules_past sig L h) (axioms_refusal A))) c.from_residual.ensures.1
    (c.in_err-draft.ensures.refused (axioms_refusal A) (λ fault past. past_refuses A (begun P R None).last fault (omega arith) past)))

pub put_conditions-requires-clause-fit : goal.put_conditions-requires-clause-fit
put_conditions-requires-clause-fit c =
    conditions_there c.args.sig.now c.args.horizon c.requires.horizon c.stride-stride.result c.stride-stride.ensures.value c.stride-stride.ensures.bound c.in_ok-draft.draft.places c.in_ok-draft.ensures.places
    c.args.query.now.conditions c.items.result.now c.items.ensures c.requires.query.conditions

pub returns-in_err-put_conditions-clause-refused : goal.returns-in_err-put_conditions-clause-refused
returns-in_err-put_conditions-clause-refused c = λ w q of' stands.
    let sig = c.args.sig.now in
    let L = c.laws.result.now in
    let h = c.args.horizon in
    let query = c.args.query.now in
    let of = subst (λ (l : List WideGroundLaw). AreWideLawsOf sig l w) (sym c.laws.ensures) of' in
    let P = position_sizes sig h in
    let R = rules_for sig L h in
    let f : GroundCondition → Ground = λ condition. term_at (placed_condition c.stride-stride.result h condition) in
    let C = map f c.items.result.now in
    let K = option_map f query.claim in
    let A = axioms_behind P (candidates_made P R C K) in
    let made = put_terms P (begun P R None) C in
    subst (λ (o : Option Refusal). IfErr c.from_residual-in_err-put_conditions.result (IsRefusedBy o)) (refusal_eq sig L w of h query q stands c.stride-stride.result c.items.result.now c.stride-stride.ensures.value c.items.ensures)
    (fails_refused c.from_residual-in_err-put_conditions.result (rules_past sig L h) A c.in_err-put_conditions.field-0.0 made.last c.in_ok-draft.ensures.few c.from_residual-in_err-put_conditions.ensures.1 (claim_rises P made K)
    (c.in_err-put_conditions.ensures.refused P (begun P R None) c.in_ok-draft.ensures.draft))

pub deny_claim-requires-clause-fits : goal.deny_claim-requires-clause-fits
deny_claim-requires-clause-fits c =
    claim_there c.args.sig.now c.args.horizon c.requires.horizon c.stride-stride.result c.stride-stride.ensures.value c.stride-stride.ensures.bound c.put_conditions.new.draft.places
    (c.in_ok-put_conditions.ensures.places ∙ c.in_ok-draft.ensures.places) c.args.query.now.claim c.requires.query.claim

pub returns-in_err-deny_claim-clause-refused : goal.returns-in_err-deny_claim-clause-refused
returns-in_err-deny_claim-clause-refused c = λ w q of' stands.
    let sig = c.args.sig.now in
    let L = c.laws.result.now in
    let h = c.args.horizon in
    let query = c.args.query.now in
    let of = subst (λ (l : List WideGroundLaw). AreWideLawsOf sig l w) (sym c.laws.ensures) of' in
    let P = position_sizes sig h in
    let R = rules_for sig L h in
    let f : GroundCondition → Ground = λ condition. term_at (placed_condition c.stride-stride.result h condition) in
    let C = map f c.items.result.now in
    let K = option_map f query.claim in
    let A = axioms_behind P (candidates_made P R C K) in
    let made = put_terms P (begun P R None) C in
    subst (λ (o : Option Refusal). IfErr c.from_residual-in_err-deny_claim.result (IsRefusedBy o)) (refusal_eq sig L w of h query q stands c.stride-stride.result c.items.result.now c.stride-stride.ensures.value c.items.ensures)
    (fails_refused c.from_residual-in_err-deny_claim.result (rules_past sig L h) A c.in_err-deny_claim.field-0.0 A.variables c.in_ok-draft.ensures.few c.from_residual-in_err-deny_claim.ensures.1 (let e : A.variables ≤ A.variables = omega arith in e)
    (c.in_err-deny_claim.ensures.refused P made (c.in_ok-put_conditions.ensures.draft P (begun P R None) c.in_ok-draft.ensures.draft)))

pub returns-clause-made : goal.returns-clause-made
returns-clause-made c = λ w q of' stands.
    let sig = c.args.sig.now in
    let L = c.laws.result.now in
    let h = c.args.horizon in
    let query = c.args.query.now in
    let of = subst (λ (l : List WideGroundLaw). AreWideLawsOf sig l w) (sym c.laws.ensures) of' in
    let P = position_sizes sig h in
    let R = rules_for sig L h in
    let f : GroundCondition → Ground = λ condition. term_at (placed_condition c.stride-stride.result h condition) in
    let C = map f c.items.result.now in
    let K = option_map f query.claim in
    let made = put_terms P (begun P R None) C in
    subst (λ (a : Axioms). IfOk c.close.result (λ form. form ≡ a)) (form_eq sig L w of h query q stands c.stride-stride.result c.items.result.now c.stride-stride.ensures.value c.items.ensures)
    (c.close.ensures.form P (candidates_made P R C K) (c.in_ok-deny_claim.ensures.draft P made (c.in_ok-put_conditions.ensures.draft P (begun P R None) c.in_ok-draft.ensures.draft)))

pub returns-clause-tells : goal.returns-clause-tells
returns-clause-tells c = λ w q of stands.
    ok_any c.close.result (Tells (candidate_axioms w q c.args.horizon) (IsCandidate w q c.args.horizon))
    (candidates_told c.terms_mean_formulas.ensures c.args.sig.now c.args.laws.now w c.requires.laws of c.args.horizon c.requires.horizon
    c.args.query.now q stands c.requires.query)

pub returns-clause-within : goal.returns-clause-within
returns-clause-within c = λ w q of' stands.
    let sig = c.args.sig.now in
    let L = c.laws.result.now in
    let h = c.args.horizon in
    let query = c.args.query.now in
    let of = subst (λ (l : List WideGroundLaw). AreWideLawsOf sig l w) (sym c.laws.ensures) of' in
    let P = position_sizes sig h in
    let R = rules_for sig L h in
    let f : GroundCondition → Ground = λ condition. term_at (placed_condition c.stride-stride.result h condition) in
    let C = map f c.items.result.now in
    let K = option_map f query.claim in
    let made = put_terms P (begun P R None) C in
    let draft = c.in_ok-deny_claim.ensures.draft P made (c.in_ok-put_conditions.ensures.draft P (begun P R None) c.in_ok-draft.ensures.draft) in
    subst (λ (o : Option Refusal). OnOk c.close.result (o ≡ None)) (refusal_eq sig L w of h query q stands c.stride-stride.result c.items.result.now c.stride-stride.ensures.value c.items.ensures)
    (ends_within c.close.result (rules_past sig L h) (axioms_behind P (candidates_made P R C K)) c.in_ok-draft.ensures.few draft.within (c.close.ensures.within P (candidates_made P R C K) draft))

pub returns-clause-refused : goal.returns-clause-refused
returns-clause-refused c = λ w q of' stands.
    let sig = c.args.sig.now in
    let L = c.laws.result.now in
    let h = c.args.horizon in
    let query = c.args.query.now in
    let of = subst (λ (l : List WideGroundLaw). AreWideLawsOf sig l w) (sym c.laws.ensures) of' in
    let P = position_sizes sig h in
    let R = rules_for sig L h in
    let f : GroundCondition → Ground = λ condition. term_at (placed_condition c.stride-stride.result h condition) in
    let C = map f c.items.result.now in
    let K = option_map f query.claim in
    let made = put_terms P (begun P R None) C in
    let draft = c.in_ok-deny_claim.ensures.draft P made (c.in_ok-put_conditions.ensures.draft P (begun P R None) c.in_ok-draft.ensures.draft) in
    subst (λ (o : Option Refusal). IfErr c.close.result (IsRefusedBy o)) (refusal_eq sig L w of h query q stands c.stride-stride.result c.items.result.now c.stride-stride.ensures.value c.items.ensures)
    (ends_refused c.close.result (rules_past sig L h) (axioms_behind P (candidates_made P R C K)) c.in_ok-draft.ensures.few draft.within (c.close.ensures.refused P (candidates_made P R C K) draft))
