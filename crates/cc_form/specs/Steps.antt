-- The clauses of rules step by step.
use Rattle.std.specs.Prelude.{◌≡◌, ℕ, ◌+◌, ◌-◌, ◌*◌, ◌≤◌, nat_lt, if◌then◌else◌, Bool, Option, None, Result, IfOk, IfErr, OnOk, List, ◌++◌, flat_map, sum}
use Rattle.std.specs.List.{AllByRecursion}
use Rattle.cc_arena.specs.declared.ground_laws.GroundLaw.{GroundLaw}
use Rattle.cc_defs.specs.declared.lists.Key.{Key}
use Rattle.cc_defs.specs.declared.refusal.Fault.{Fault}
use Rattle.cc_defs.specs.ClauseForms.{all_written, true_variable}
use Rattle.cc_defs.specs.ClauseLists.{MadeRules, completion_from, denials_of}
use Rattle.cc_defs.specs.Clauses.{IsOver, Literal}
use Rattle.cc_defs.specs.Description.{Description, domain_sizes}
use Rattle.cc_defs.specs.GroundLaws.{PlainGroundQuery, StandsForQuery}
use Rattle.cc_defs.specs.Limits.{most_variables}
use Rattle.cc_defs.specs.Refusals.{IsRefusedBy}
use Rattle.cc_defs.specs.Resolved.{Query}
use Rattle.cc_defs.specs.Rules.{upto}
use Rattle.cc_defs.specs.Sections.{Axioms}
use Rattle.cc_defs.specs.Signatures.{Signature, ground_constants}
use Rattle.cc_theory.specs.Making.{rules_at_step, rules_for, stride_of}
use Rattle.cc_theory.specs.Theories.{AreLawsOf, sizes_of_step}
use Rattle.cc_form.specs.Forms.{TellsHistories, asked, form_of, section_refusal}
use Rattle.cc_form.specs.Making.{made_bodies}
use Rattle.cc_form.specs.Moving.{renamed_clauses}
use Rattle.cc_form.specs.Places.{position_sizes}
use Rattle.cc_form.specs.declared.moving.Move.{Move}
use Rattle.cc_form.specs.declared.moving.Way.{Way}
use Rattle.cc_form.specs.declared.steps.RuledStep.{RuledStep}
use Rattle.cc_form.specs.declared.steps.Step.{Step}
use Rattle.cc_form.specs.declared.steps.Steps.{Steps}

-- ---- what is made at a step

-- the variable that is true
abbrev pub truth_at : Signature → ℕ → ℕ
truth_at signature horizon = true_variable (position_sizes signature horizon)

-- the bodies of the rules of a step, where so many variables are made at each step before it
abbrev pub step_bodies : Signature → List GroundLaw → (own horizon step : ℕ) → MadeRules
step_bodies signature laws own horizon step =
    made_bodies (position_sizes signature horizon) (stride_of signature) (truth_at signature horizon + step * own) (rules_at_step (stride_of signature) laws horizon step)

-- how many variables are made at a step before the last
abbrev pub own_variables : Signature → List GroundLaw → ℕ
own_variables signature laws = (step_bodies signature laws 0 2 0).last - truth_at signature 2

-- all rules of a horizon with the literals of their bodies
abbrev pub bodies_at : Signature → List GroundLaw → ℕ → MadeRules
bodies_at signature laws horizon = made_bodies (position_sizes signature horizon) (stride_of signature) (truth_at signature horizon) (rules_for signature laws horizon)

-- the three groups of clauses of a step

abbrev pub bodies_of_step : Signature → List GroundLaw → (horizon step : ℕ) → List (List Literal)
bodies_of_step signature laws horizon step = (step_bodies signature laws (own_variables signature laws) horizon step).clauses

abbrev pub completion_of_step : Signature → List GroundLaw → (horizon step : ℕ) → List (List Literal)
completion_of_step signature laws horizon step =
    all_written (completion_from (position_sizes signature horizon) (bodies_at signature laws horizon).rules (step * stride_of signature) (sizes_of_step signature horizon step))

abbrev pub denials_of_step : Signature → List GroundLaw → (horizon step : ℕ) → List (List Literal)
denials_of_step signature laws horizon step = all_written (denials_of (step_bodies signature laws (own_variables signature laws) horizon step).rules)

-- ---- moved steps

-- the variables of atoms, the one behind them, which is true, and those of terms each move by a number of their own
abbrev pub moved_variable : Move → ℕ → ℕ
moved_variable move variable =
    if nat_lt move.atoms variable then (if nat_lt (move.atoms + 1) variable then variable + move.high else variable + move.middle) else variable + move.low

abbrev pub moved_clauses : Move → List (List Literal) → List (List Literal)
moved_clauses move clauses = renamed_clauses (moved_variable move) clauses

-- so many steps later
abbrev pub way_at : Way → ℕ → Move
way_at way steps = record { atoms = way.atoms; low = steps * way.values; middle = way.middle; high = way.middle + steps * way.own }

-- how clauses of a horizon of two steps move to a longer one
abbrev pub way_of : Signature → List GroundLaw → ℕ → Way
way_of signature laws horizon = record {
  atoms = sum (position_sizes signature 2);
  values = sum (domain_sizes (ground_constants signature));
  middle = truth_at signature horizon - truth_at signature 2;
  own = own_variables signature laws;
}

abbrev pub move_at : Signature → List GroundLaw → (horizon steps : ℕ) → Move
move_at signature laws horizon steps = way_at (way_of signature laws horizon) steps

-- clauses of the first step, of one behind it and of the last, of a horizon of two, moved to the steps of a longer one
abbrev pub placed_by : Way → (horizon : ℕ) → (first later last : List (List Literal)) → List (List Literal)
placed_by way horizon first later last =
    moved_clauses (way_at way 0) first
    ++ flat_map (λ steps. moved_clauses (way_at way steps) later) (upto (horizon - 1))
    ++ moved_clauses (way_at way (horizon - 2)) last

abbrev pub placed : Signature → List GroundLaw → (horizon : ℕ) → (first later last : List (List Literal)) → List (List Literal)
placed signature laws horizon first later last = placed_by (way_of signature laws horizon) horizon first later last

-- the numbers stay within their limit where clauses over so many variables move
pub record CanMove (by : Move) (top : ℕ) : Type 0 where
  pub few : by.atoms ≤ most_variables
  pub low : by.low ≤ by.middle
  pub middle : by.middle ≤ by.high
  pub most : top + by.high ≤ most_variables

pub record CanPlace (way : Way) (horizon top : ℕ) : Type 0 where
  pub some : 2 ≤ horizon
  pub few : way.atoms ≤ most_variables
  pub low : (horizon - 2) * way.values ≤ way.middle
  pub most : top + (way.middle + (horizon - 2) * way.own) ≤ most_variables

abbrev pub AreOver : ℕ → List (List Literal) → Type 0
AreOver top clauses = AllByRecursion (IsOver top) clauses

-- ---- what is kept of a horizon of two

pub record IsRuled (signature : Signature) (laws : List GroundLaw) (number : ℕ) (ruled : RuledStep) : Type 0 where
  pub bodies : ruled.bodies ≡ bodies_of_step signature laws 2 number
  pub denials : ruled.denials ≡ denials_of_step signature laws 2 number

pub record IsStep (signature : Signature) (laws : List GroundLaw) (number : ℕ) (step : Step) : Type 0 where
  pub bodies : step.bodies ≡ bodies_of_step signature laws 2 number
  pub completion : step.completion ≡ completion_of_step signature laws 2 number
  pub denials : step.denials ≡ denials_of_step signature laws 2 number

pub record AreSteps (signature : Signature) (laws : List GroundLaw) (steps : Steps) : Type 0 where
  pub first : IsStep signature laws 0 steps.first
  pub later : IsStep signature laws 1 steps.later
  pub last : IsStep signature laws 2 steps.last
  pub atoms : steps.atoms ≡ sum (position_sizes signature 2)
  pub values : steps.values ≡ sum (domain_sizes (ground_constants signature))
  pub own : steps.own ≡ own_variables signature laws
  pub ends : steps.ends ≡ (bodies_at signature laws 2).last
  pub within : steps.ends ≤ most_variables

-- their clauses are over so many variables

pub record AreOverStep (top : ℕ) (step : Step) : Type 0 where
  pub bodies : AreOver top step.bodies
  pub completion : AreOver top step.completion
  pub denials : AreOver top step.denials

pub record AreOverSteps (top : ℕ) (steps : Steps) : Type 0 where
  pub first : AreOverStep top steps.first
  pub later : AreOverStep top steps.later
  pub last : AreOverStep top steps.last

-- the three groups at the steps of a horizon
abbrev pub placed_steps : Way → (horizon : ℕ) → Steps → List (List Literal)
placed_steps way horizon steps =
    placed_by way horizon steps.first.bodies steps.later.bodies steps.last.bodies
    ++ placed_by way horizon steps.first.completion steps.later.completion steps.last.completion
    ++ placed_by way horizon steps.first.denials steps.later.denials steps.last.denials

-- what a template was made of
pub record TemplateView : Type 0 where
  pub signature : Signature
  pub laws : List GroundLaw

-- what came of the clause list of a section at a horizon
pub record IsFormAt (signature : Signature) (laws : List GroundLaw) (horizon : ℕ) (query : PlainGroundQuery) (with_claim : Bool) (key : Option Key) (row : Option (List ℕ)) (result : Result Axioms Fault) : Type 0 where
  pub made : (d : Description) (q : Query) → AreLawsOf signature laws d → StandsForQuery query d q → IfOk result (λ form. form ≡ form_of d q horizon with_claim key)
  pub tells : (d : Description) (q : Query) → AreLawsOf signature laws d → StandsForQuery query d q →
      OnOk result (TellsHistories d (asked with_claim q) horizon row (form_of d q horizon with_claim key))
  pub within : (d : Description) (q : Query) → AreLawsOf signature laws d → StandsForQuery query d q → OnOk result (section_refusal d q horizon with_claim key ≡ None)
  pub refused : (d : Description) (q : Query) → AreLawsOf signature laws d → StandsForQuery query d q → IfErr result (IsRefusedBy (section_refusal d q horizon with_claim key))
