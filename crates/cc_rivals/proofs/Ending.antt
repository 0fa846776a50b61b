-- The clause lists that are made, and what they are refused for.
use Rattle.std.proofs.Common.{◌≡◌, ◌∙◌, ℕ, ◌<◌, ◌≤◌, List, ◌++◌, IsErrAnd, IfErr, OnOk, Option, Some, None, Result, Ok, Err, refl, sym, ap, subst, arith}
use Rattle.std.specs.Option.{option_or}
use Rattle.std.proofs.lemmas.Bool.{le-ltb, lt-ltb}
use Rattle.cc_defs.specs.declared.refusal.Fault.{Fault}
use Rattle.cc_defs.specs.declared.refusal.Fault.TheVariants as faults
use Rattle.cc_defs.specs.declared.refusal.LimitAt.TheVariants as limits
use Rattle.cc_defs.specs.declared.refusal.Refusal.{Refusal}
use Rattle.cc_defs.specs.ClauseForms.{true_variable}
use Rattle.cc_defs.specs.ClauseLists.{Asserted, assert_all, deny}
use Rattle.cc_defs.specs.Clauses.{Literal}
use Rattle.cc_defs.specs.Refusals.{IsRefusedBy, past}
use Rattle.cc_defs.specs.Rows.{IsRow}
use Rattle.cc_defs.specs.Sections.{Axioms, row_denial}
use Rattle.cc_defs.specs.Terms.{Ground}
use Rattle.cc_form.specs.Building.{count_refusal}
use Rattle.cc_form.specs.Drafts.{axioms_refusal, with_clause}
use Rattle.cc_form.specs.Machine.{IsPast}
use Rattle.cc_form.specs.Parts.{axioms_behind, joined_parts}
use Rattle.cc_rivals.specs.Putting.{nothing_put, put_claim, put_rules, put_terms}
use Rattle.cc_rivals.proofs.Folding.{claim_put, heads_put, implied_put, terms_put}
use Rattle.cc_rivals.proofs.Meeting.{denial_written}
use Rattle.cc_wide.specs.WideLists.{WideTimed, axioms_over, candidates_over, reduct_heads, rivals_over}

-- ---- refusals

past_forms : (A : Axioms) → 4000000 < A.variables → axioms_refusal A ≡ Some (past limits.Variables)
past_forms A more = rw (lt-ltb 4000000 A.variables more) refl

within_forms : (A : Axioms) → A.variables ≤ 4000000 → axioms_refusal A ≡ count_refusal A.clauses
within_forms A few = rw (le-ltb 4000000 A.variables few) refl

pub past_refuses : (A : Axioms) (last : ℕ) (fault : Fault) → last ≤ A.variables → IsPast last fault → IsRefusedBy (axioms_refusal A) fault
past_refuses A last (faults.Refused refusal) less is = past_forms A (let more = is.1 in omega arith) ∙ ap Some (sym is.0)
past_refuses A last faults.OutOfMemory less is = tt

pub or_none : (rules form : Option Refusal) → rules ≡ None → option_or rules form ≡ form
or_none rules form none = ap (λ (o : Option Refusal). option_or o form) none

pub ends_within : {T E : Type 0} (result : Result T E) (rules : Option Refusal) (A : Axioms) → rules ≡ None → A.variables ≤ 4000000 → OnOk result (count_refusal A.clauses ≡ None) → OnOk result (option_or rules (axioms_refusal A) ≡ None)
ends_within (Ok x) rules A none few is = or_none rules (axioms_refusal A) none ∙ within_forms A few ∙ is
ends_within (Err e) rules A none few is = tt

pub ends_refused : {T : Type 0} (result : Result T Fault) (rules : Option Refusal) (A : Axioms) → rules ≡ None → A.variables ≤ 4000000 → IfErr result (IsRefusedBy (count_refusal A.clauses)) → IfErr result (IsRefusedBy (option_or rules (axioms_refusal A)))
ends_refused result rules A none few is = subst (λ (o : Option Refusal). IfErr result (IsRefusedBy o)) (sym (or_none rules (axioms_refusal A) none ∙ within_forms A few)) is

pub fails_refused : {T : Type 0} (result : Result T Fault) (rules : Option Refusal) (A : Axioms) (fault : Fault) (last : ℕ) → rules ≡ None → IsErrAnd result (λ given. given ≡ fault) → last ≤ A.variables → IsPast last fault →
    IfErr result (IsRefusedBy (option_or rules (axioms_refusal A)))
fails_refused (Ok x) rules A fault last none is less past = absurd is
fails_refused (Err given) rules A fault last none is less past =
    subst (λ (o : Option Refusal). IsRefusedBy o given) (sym (or_none rules (axioms_refusal A) none)) (subst (IsRefusedBy (axioms_refusal A)) (sym is) (past_refuses A last fault less past))

-- ---- lists

module _ (P : List ℕ) (rules : List WideTimed) where
  abbrev pub begun : Option (List ℕ) → Asserted
  begun row = put_rules row P (nothing_put P) rules

  abbrev pub candidates_made : List Ground → Option Ground → Asserted
  candidates_made conditions claim = put_claim P (put_terms P (begun None) conditions) claim

  pub candidates_form : (conditions : List Ground) (claim : Option Ground) → axioms_behind P (candidates_made conditions claim) ≡ axioms_over P (candidates_over P rules conditions claim)
  candidates_form conditions claim =
      ap (axioms_behind P) (
      claim_put P (put_terms P (begun None) conditions) claim
      ∙ ap (λ (x : Asserted). joined_parts x (deny P x.last claim))
      (terms_put P (begun None) conditions ∙ ap (λ (y : Asserted). joined_parts y (assert_all P y.last conditions)) (implied_put P (nothing_put P) rules)))

  abbrev pub rivals_made : List ℕ → Asserted
  rivals_made row = with_clause (begun (Some row)) (row_denial P row)

  pub rivals_form : (row : List ℕ) → IsRow P row → axioms_behind P (rivals_made row) ≡ axioms_over P (rivals_over P rules row)
  rivals_form row is =
      ap (axioms_behind P) (
      ap (λ (x : Asserted). with_clause x (row_denial P row)) (heads_put row P (nothing_put P) rules ∙ terms_put P (nothing_put P) (reduct_heads rules row))
      ∙ ap (λ (l : List (List Literal)). let heads = assert_all P (true_variable P) (reduct_heads rules row) in let a : Asserted = record { last = heads.last; clauses = heads.clauses ++ l } in a) (denial_written P row is))
