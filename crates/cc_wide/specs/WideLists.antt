-- The clause lists of candidates and of rivals.
use Rattle.std.specs.Prelude.{◌≡◌, ℕ, ◌+◌, ◌*◌, ◌&&◌, if◌then◌else◌, nat_lt, Bool, true, List, [], ◌∷◌, ◌++◌, length, map, flat_map, slice_index, Option, Some, None}
use Rattle.std.specs.List.{filter}
use Rattle.std.specs.Option.{option_map}
use Rattle.cc_defs.specs.declared.signature.Const.{Const}
use Rattle.cc_defs.specs.declared.signature.Kind.{Kind}
use Rattle.cc_defs.specs.declared.signature.Kind.TheVariants as kinds
use Rattle.cc_defs.specs.declared.signature.LawKind.{LawKind}
use Rattle.cc_defs.specs.declared.signature.LawKind.TheVariants as law_kinds
use Rattle.cc_defs.specs.ClauseForms.{Made, all_written, made_of, positive, true_variable, written}
use Rattle.cc_defs.specs.ClauseLists.{Asserted, ClauseList, assert_all, condition_term, deny, positions_from}
use Rattle.cc_defs.specs.Clauses.{Literal, opposite}
use Rattle.cc_defs.specs.Description.{Description}
use Rattle.cc_defs.specs.Nodes.{term_of}
use Rattle.cc_defs.specs.Resolved.{Query}
use Rattle.cc_defs.specs.Rules.{upto}
use Rattle.cc_defs.specs.Satisfaction.{Environment, giving}
use Rattle.cc_defs.specs.Sections.{Axioms, row_denial}
use Rattle.cc_defs.specs.Terms.{Ground, all_of, truth}
use Rattle.cc_defs.specs.Terms as terms
use Rattle.cc_defs.specs.TimedRules.{at_step}
use Rattle.cc_wide.specs.WideLaws.{WideDescription, WideLaw, frame}
use Rattle.cc_wide.specs.WideRules.{Together, Under, WideInstance, wide_instances, wide_sizes}

-- ---- the rules of a horizon as data: terms over its positions

pub record WideTimed : Type 0 where
  pub now : Ground
  pub before : Option Ground
  pub head : Ground

-- each value of a simple fluent at step 0 is a cause of itself
abbrev pub initial_wide : Kind → (number size : ℕ) → List WideTimed
initial_wide kinds.Simple number size =
    map (λ value. record { now = terms.Atom number value; before = None; head = terms.Atom number value }) (upto size)
initial_wide kinds.Determined number size = []
initial_wide kinds.Action number size = []

abbrev pub all_initial_wide : ℕ → List Const → List WideTimed
all_initial_wide number [] = []
all_initial_wide number (constant ∷ constants) = initial_wide constant.kind number (length constant.domain) ++ all_initial_wide (number + 1) constants

abbrev pub wide_timed_at : Description → WideLaw → Environment → (now before : ℕ) → WideTimed
wide_timed_at d law env now before = record {
  now = at_step d now (term_of d.universe env law.body);
  before = option_map (λ formula. at_step d before (term_of d.universe env formula)) law.after;
  head = at_step d now (term_of d.universe env law.head);
}

abbrev pub wide_timed_of_kind : LawKind → Description → (horizon : ℕ) → WideLaw → (step : ℕ) → Environment → List WideTimed
wide_timed_of_kind law_kinds.Static d horizon law step env = wide_timed_at d law env step step ∷ []
wide_timed_of_kind law_kinds.ActionDynamic d horizon law step env = if nat_lt step horizon then wide_timed_at d law env step step ∷ [] else []
wide_timed_of_kind law_kinds.FluentDynamic d horizon law step env = if nat_lt step horizon then wide_timed_at d law env (step + 1) step ∷ [] else []

-- `caused false after a & b`
abbrev pub wide_together : Description → (step : ℕ) → ℕ × ℕ → WideTimed
wide_together d step pair = record {
  now = terms.Truth;
  before = Some (at_step d step (all_of (terms.Atom pair.0 1 ∷ terms.Atom pair.1 1 ∷ [])));
  head = terms.Falsehood;
}

abbrev pub wide_timed_of_instance : Description → (horizon step : ℕ) → WideInstance → List WideTimed
wide_timed_of_instance d horizon step (Under base law values) = wide_timed_of_kind law.kind d horizon law step (giving values)
wide_timed_of_instance d horizon step (Together base pair) = if nat_lt step horizon then wide_together d step pair ∷ [] else []

-- the rules of a horizon: the initial ones, then step by step those of each instance
abbrev pub wide_timed : WideDescription → ℕ → List WideTimed
wide_timed w horizon = all_initial_wide 0 w.universe.fluents
    ++ flat_map (λ step. flat_map (wide_timed_of_instance (frame w) horizon step) (wide_instances w)) (upto (horizon + 1))

-- ---- candidates: where the parts of a rule are true, so is its head

-- the clauses of the parts of a rule that are there, in order, with their literals
abbrev pub made_before : List ℕ → ℕ → Option Ground → Option Made
made_before sizes last None = None
made_before sizes last (Some formula) = Some (made_of sizes last formula)

abbrev pub implied_with : List ℕ → Made → Option Ground → Ground → Asserted
implied_with sizes now None head =
    let told = made_of sizes now.last head
    in record { last = told.last; clauses = now.clauses ++ told.clauses ++ written (opposite now.literal ∷ told.literal ∷ []) }
implied_with sizes now (Some formula) head =
    let before = made_of sizes now.last formula
    in let told = made_of sizes before.last head
    in record {
      last = told.last;
      clauses = now.clauses ++ before.clauses ++ told.clauses ++ written (opposite now.literal ∷ opposite before.literal ∷ told.literal ∷ []);
    }

abbrev pub implied : List ℕ → ℕ → WideTimed → Asserted
implied sizes last rule = implied_with sizes (made_of sizes last rule.now) rule.before rule.head

abbrev pub all_implied : List ℕ → ℕ → List WideTimed → Asserted
all_implied sizes last [] = record { last = last; clauses = [] }
all_implied sizes last (rule ∷ rules) =
    let first = implied sizes last rule
    in let others = all_implied sizes first.last rules
    in record { last = others.last; clauses = first.clauses ++ others.clauses }

-- behind T and the clauses of positions
abbrev pub over_positions : List ℕ → Asserted → ClauseList
over_positions sizes made = record {
  variables = made.last;
  clauses = (positive (true_variable sizes) ∷ []) ∷ positions_from 1 sizes ++ made.clauses;
}

-- each rule, and then the conditions of the query, and that its claim does not hold
abbrev pub candidates_over : List ℕ → List WideTimed → List Ground → Option Ground → ClauseList
candidates_over sizes rules conditions claim =
    let made = all_implied sizes (true_variable sizes) rules
    in let asked = assert_all sizes made.last conditions
    in let denied = deny sizes asked.last claim
    in over_positions sizes (record { last = denied.last; clauses = made.clauses ++ asked.clauses ++ denied.clauses })

abbrev pub candidates_list : WideDescription → Query → ℕ → ClauseList
candidates_list w q horizon =
    candidates_over (wide_sizes w horizon) (wide_timed w horizon) (map (condition_term (frame w) horizon) q.conditions)
    (option_map (condition_term (frame w) horizon) q.claim)

-- ---- rivals of a row: the heads of the rules whose tests the row meets are true, and it is another row

abbrev pub holds_in : List ℕ → Ground → Bool
holds_in row term = truth (λ position. slice_index row position) term

abbrev pub part_holds_in : List ℕ → Option Ground → Bool
part_holds_in row None = true
part_holds_in row (Some term) = holds_in row term

abbrev pub test_holds : List ℕ → WideTimed → Bool
test_holds row rule = holds_in row rule.now && part_holds_in row rule.before

abbrev pub reduct_heads : List WideTimed → List ℕ → List Ground
reduct_heads rules row = map (λ rule. rule.head) (filter (test_holds row) rules)

abbrev pub rivals_over : List ℕ → List WideTimed → List ℕ → ClauseList
rivals_over sizes rules row =
    let heads = assert_all sizes (true_variable sizes) (reduct_heads rules row)
    in over_positions sizes (record { last = heads.last; clauses = heads.clauses ++ row_denial sizes row ∷ [] })

abbrev pub rivals_list : WideDescription → ℕ → List ℕ → ClauseList
rivals_list w horizon row = rivals_over (wide_sizes w horizon) (wide_timed w horizon) row

-- ---- as axioms

abbrev pub axioms_over : List ℕ → ClauseList → Axioms
axioms_over sizes list = record { sizes = sizes; variables = list.variables; clauses = list.clauses }

abbrev pub candidate_axioms : WideDescription → Query → ℕ → Axioms
candidate_axioms w q horizon = axioms_over (wide_sizes w horizon) (candidates_list w q horizon)

abbrev pub rival_axioms : WideDescription → ℕ → List ℕ → Axioms
rival_axioms w horizon row = axioms_over (wide_sizes w horizon) (rivals_list w horizon row)
