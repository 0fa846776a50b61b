-- A query that is asked at a horizon is asked at each later one.
use Rattle.std.proofs.Common.{◌≡◌, ℕ, ◌≤◌, Bool, true, false, List, [], ◌∷◌, Option, Some, None, refl, sym, subst, arith}
use Rattle.std.specs.Prelude.{IfSome, if◌then◌else◌, nat_lt}
use Rattle.std.specs.List.{AllByRecursion}
use Rattle.std.proofs.lemmas.Bool.{lt-ltb, ltb-true}
use Rattle.cc_defs.specs.declared.node.Node.{Node}
use Rattle.cc_defs.specs.declared.signature.At.{At}
use Rattle.cc_defs.specs.declared.signature.At.TheVariants.{Number, Last}
use Rattle.cc_defs.specs.Description.{domain_sizes}
use Rattle.cc_defs.specs.GroundLaws.{PlainGroundCondition}
use Rattle.cc_defs.specs.Histories.{step_of}
use Rattle.cc_defs.specs.Signatures.{Signature, ground_constants}
use Rattle.cc_defs.specs.Terms.{IsTermOver}
use Rattle.cc_form.specs.Queries.{IsConditionAt}
use Rattle.cc_theory.specs.Theories.{IsTermAt}
use Rattle.cc_induction.specs.Laws.{QueriesAreAskedLater}
use Rattle.cc_induction.proofs.Fitting.{every, fluent_term, term_at}

module _ (signature : Signature) (least later : ℕ) (long : least ≤ later) where
  abbrev over : Bool → List Node → Type 0
  over earlier list = IsTermOver (if earlier then domain_sizes (ground_constants signature) else domain_sizes signature.fluents) list

  -- a step before the last one has all constants, and so it has later; the last one has the fluents alone
  number_later : (step : ℕ) (list : List Node) → IsTermAt signature least step list → IsTermAt signature later step list
  number_later step list term = by (nat_lt step least) refl
    where
      by : (earlier : Bool) → nat_lt step least ≡ earlier → IsTermAt signature later step list
      by true is =
          let before = ltb-true step least is in
          record {
            within = omega arith;
            term = subst (λ (b : Bool). over b list) (sym (lt-ltb step later (omega arith))) (subst (λ (b : Bool). over b list) is term.term);
          }
      by false is = last (nat_lt step later) refl (subst (λ (b : Bool). over b list) is term.term)
        where
          last : (earlier : Bool) → nat_lt step later ≡ earlier → over false list → IsTermAt signature later step list
          last true so fluents = every signature least later list fluents step (ltb-true step later so)
          last false so fluents = record {
            within = let w = term.within in omega arith;
            term = subst (λ (b : Bool). over b list) (sym so) fluents;
          }

  condition_later : (at : At) (list : List Node) → IsTermAt signature least (step_of at least) list → IsTermAt signature later (step_of at later) list
  condition_later (Number step) list term = number_later step list term
  condition_later Last list term = term_at signature least later Last list refl (fluent_term signature least later Last list refl term)

  conditions_later : (conditions : List PlainGroundCondition) → AllByRecursion (IsConditionAt signature least) conditions → AllByRecursion (IsConditionAt signature later) conditions
  conditions_later [] are = tt
  conditions_later (condition ∷ conditions) are = (condition_later condition.at condition.nodes are.0, conditions_later conditions are.1)

  claim_later : (claim : Option PlainGroundCondition) → IfSome claim (IsConditionAt signature least) → IfSome claim (IsConditionAt signature later)
  claim_later None is = tt
  claim_later (Some claim) is = condition_later claim.at claim.nodes is

pub asked_later : QueriesAreAskedLater
asked_later signature query horizon later long is = record {
  conditions = conditions_later signature horizon later long query.conditions is.conditions;
  claim = claim_later signature horizon later long query.claim is.claim;
}
