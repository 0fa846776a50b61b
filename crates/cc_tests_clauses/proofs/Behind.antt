-- Clauses of a description without constants, whose row is to lie behind the only one.
use Rattle.std.proofs.Common.{◌≡◌, ◌∙◌, ℕ, false, List, [], Option, Some, None, refl, sym, ap, subst}
use Rattle.std.specs.Prelude.{Result, Ok, Err, IfOk, IfErr, IsErrAnd}
use Rattle.cc_arena.specs.declared.ground_laws.GroundLaw.{GroundLaw}
use Rattle.cc_defs.specs.declared.lists.Key.{Key}
use Rattle.cc_defs.specs.declared.refusal.Fault.{Fault}
use Rattle.cc_defs.specs.ClauseLists.{clause_list}
use Rattle.cc_defs.specs.GroundLaws.{PlainGroundCondition, PlainGroundQuery, StandsForQuery}
use Rattle.cc_defs.specs.Refusals.{IsRefusedBy}
use Rattle.cc_defs.specs.Sections.{Axioms}
use Rattle.cc_defs.specs.Signatures.{Signature}
use Rattle.cc_form.specs.Forms.{form_of, form_refusal}
use Rattle.cc_form.specs.Queries.{IsKeyAt}
use Rattle.cc_theory.specs.Theories.{AreLawsOf, rules_refusal}
use Rattle.cc_tests_clauses.proofs.Nothing.{empty}
use Rattle.cc_tests_clauses.specs.Digits.{axioms_behind, no_description, no_question, only_row}

empty_of : AreLawsOf empty [] no_description
empty_of = record { signature_is = record { fluents = refl; actions = refl; numbers = refl }; laws_are = refl }

pub laws_of : (signature : Signature) (laws : List GroundLaw) → signature ≡ empty → laws ≡ [] → AreLawsOf signature laws no_description
laws_of signature laws is none =
    subst (λ (s : Signature). AreLawsOf s laws no_description) (sym is) (subst (λ (l : List GroundLaw). AreLawsOf empty l no_description) (sym none) empty_of)

abbrev whole : ℕ → ℕ → List PlainGroundCondition → Option PlainGroundCondition → PlainGroundQuery
whole lo hi conditions claim = record { lo = lo; hi = hi; conditions = conditions; claim = claim }

pub stands : (query : PlainGroundQuery) → query.lo ≡ 0 → query.hi ≡ 0 → query.conditions ≡ [] → query.claim ≡ None → StandsForQuery query no_description no_question
stands query lo hi none nothing = (
  (0, 0),
  refl,
  ap (λ (n : ℕ). whole n query.hi query.conditions query.claim) lo ∙ ap (λ (n : ℕ). whole 0 n query.conditions query.claim) hi
      ∙ ap (λ (cs : List PlainGroundCondition). whole 0 0 cs query.claim) none ∙ ap (λ (c : Option PlainGroundCondition). whole 0 0 [] c) nothing,
)

empty_key : IsKeyAt empty 0 only_row
empty_key = record { horizon_is = refl; row = tt }

pub key_at : (signature : Signature) (key : Key) → signature ≡ empty → key ≡ only_row → IsKeyAt signature 0 key
key_at signature key is same = subst (λ (s : Signature). IsKeyAt s 0 key) (sym is) (subst (λ (k : Key). IsKeyAt empty 0 k) (sym same) empty_key)

pub made_at : (r : Result Axioms Fault) (horizon : ℕ) (key : Key) → horizon ≡ 0 → key ≡ only_row →
    IfOk r (λ form. form ≡ form_of no_description no_question horizon false (Some key)) → IfOk r (λ form. form ≡ axioms_behind)
made_at r horizon key is same h =
    subst (λ (k : Key). IfOk r (λ (form : Axioms). form ≡ form_of no_description no_question 0 false (Some k))) same
    (subst (λ (n : ℕ). IfOk r (λ (form : Axioms). form ≡ form_of no_description no_question n false (Some key))) is h)

pub refused_at : (r : Result Axioms Fault) (horizon : ℕ) (key : Key) → horizon ≡ 0 → key ≡ only_row →
    IfErr r (IsRefusedBy (form_refusal (clause_list no_description no_question horizon false (Some key)))) → IfErr r (IsRefusedBy None)
refused_at r horizon key is same h =
    subst (λ (k : Key). IfErr r (IsRefusedBy (form_refusal (clause_list no_description no_question 0 false (Some k))))) same
    (subst (λ (n : ℕ). IfErr r (IsRefusedBy (form_refusal (clause_list no_description no_question n false (Some key))))) is h)

pub refused_early : (r : Result Axioms Fault) (fault : Fault) → IsErrAnd r (λ (given : Fault). given ≡ fault) → IsRefusedBy (rules_refusal no_description 0) fault →
    IfErr r (IsRefusedBy None)
refused_early (Ok form) fault is h = tt
refused_early (Err given) fault is h = subst (IsRefusedBy None) (sym is) h
