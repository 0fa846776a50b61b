-- The completion theorem and the path theorem, the heads of rules, and the parts of paths.
use Rattle.std.proofs.Common.{ℕ, zero, suc, ◌+◌, ◌≤◌, List, sym, subst, arith}
use Rattle.cc_defs.specs.Description.{Description, sizes_at}
use Rattle.cc_defs.specs.Environments.{instances}
use Rattle.cc_defs.specs.Paths.{IsTransition}
use Rattle.cc_defs.specs.Rows.{IsRow}
use Rattle.cc_defs.specs.Rules.{rules_at}
use Rattle.cc_defs.specs.Theories.{IsModel}
use Rattle.cc_defs.specs.TimedRules.{TimedRule, timed_rules}
use Rattle.cc_theory.specs.Laws.{HeadsNameAtoms, IsGroundedWell, ModelsArePaths, ModelsMeetCompletion, PathsHaveParts, part_of}
use Rattle.cc_theory.proofs.Cases.{Case, IsFit, cases, cases_fit, rules_by_cases}
use Rattle.cc_theory.proofs.Lists.{In, all_in, contains_in, in_contains}
use Rattle.cc_theory.proofs.Local.{IsLocal, local_supported}
use Rattle.cc_theory.proofs.Members.{heads_fit}
use Rattle.cc_theory.proofs.Origins.{supported_local}
use Rattle.cc_theory.proofs.Same.{Meaning, rules_same}
use Rattle.cc_theory.proofs.Supported.{IsSupported, completion_supported, model_supported, supported_completion, supported_model}
use Rattle.cc_theory.proofs.Parts.{part_local, part_row, window_is, windows_local}

fits : (d : Description) → IsGroundedWell d → (c : Case) → In (cases d) c → IsFit c.kind d.universe c
fits d well = all_in (λ c. IsFit c.kind d.universe c) (cases d) (cases_fit d.universe (instances d.universe d.laws) well.laws)

module _ (meaning : Meaning) (d : Description) (well : IsGroundedWell d) where
  module _ (horizon : ℕ) (row : List ℕ) where
    abbrev Model : Type 0
    Model = IsModel (sizes_at d horizon) (rules_at d horizon) row

    abbrev Supported : List TimedRule → Type 0
    Supported timed = IsSupported (sizes_at d horizon) timed row

    supported : Model → Supported (timed_rules d horizon)
    supported model = model_supported (sizes_at d horizon) (rules_at d horizon) (timed_rules d horizon) (rules_same meaning d well.values horizon) row model

    model : IsRow (sizes_at d horizon) row → Supported (timed_rules d horizon) → Model
    model is held = supported_model (sizes_at d horizon) (rules_at d horizon) (timed_rules d horizon) (rules_same meaning d well.values horizon) row is held

    model_local : Model → IsLocal d horizon row
    model_local m = supported_local d horizon row (fits d well) (subst Supported (rules_by_cases d horizon) (supported m))

    local_model : IsRow (sizes_at d horizon) row → IsLocal d horizon row → Model
    local_model is local = model is (subst Supported (sym (rules_by_cases d horizon)) (local_supported d horizon row is local))

  -- a part of a model is a model of its own horizon
  part_model : (horizon : ℕ) (row : List ℕ) (start count : ℕ) → start + count ≤ horizon → Model horizon row → Model count (part_of d row start count)
  part_model horizon row start count within m =
      local_model count (part_of d row start count) (part_row d horizon row start count within m.interprets)
      (part_local d (fits d well) horizon row start count within (model_local horizon row m))

pub heads_name : HeadsNameAtoms
heads_name d well horizon rule there =
    heads_fit d horizon (fits d well) rule (subst (λ (l : List TimedRule). In l rule) (rules_by_cases d horizon) (contains_in (timed_rules d horizon) rule there))

pub completion : Meaning → ModelsMeetCompletion
completion meaning d well horizon row is =
    let sizes = sizes_at d horizon in
    let rules = rules_at d horizon in
    let timed = timed_rules d horizon in
    let same = rules_same meaning d well.values horizon in (
      λ m. supported_completion sizes rules timed same row (supported meaning d well horizon row m),
      λ meets. model meaning d well horizon row is (completion_supported sizes rules timed same row
          (λ t i. heads_name d well horizon t (in_contains timed t i)) is meets),
    )

pub paths : Meaning → ModelsArePaths
paths meaning d well zero row = (λ m. m, λ path. path)
paths meaning d well (suc last) row = (
  λ m. (m.interprets, λ step less. subst (IsTransition d) (window_is d row step) (part_model meaning d well (suc last) row step 1 (omega arith) m)),
  λ path. local_model meaning d well (suc last) row path.0
      (windows_local d (fits d well) row last (λ step less. model_local meaning d well 1 (part_of d row step 1) (subst (IsTransition d) (sym (window_is d row step)) (path.1 step less)))),
)

pub parts : Meaning → PathsHaveParts
parts meaning d well horizon row path start count within =
    (paths meaning d well count (part_of d row start count)).0
    (part_model meaning d well horizon row start count within ((paths meaning d well horizon row).1 path))
