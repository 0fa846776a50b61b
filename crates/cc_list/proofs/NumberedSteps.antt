-- The lines of a section can be written in version 2: their own numbers are within bounds, and chains name what stands before.
use Rattle.std.proofs.Common.{◌≡◌, ℕ, ◌+◌, ◌≤◌, Bool, true, false, if◌then◌else◌, List, [], ◌∷◌, ◌++◌, length, map, Option, Some, None, refl, sym, subst, arith, length-append}
use Rattle.std.specs.Prelude.{flat_map, nat_lt, sum}
use Rattle.std.specs.List.{AllByRecursion}
use Rattle.std.specs.Option.{option_or}
use Rattle.std.proofs.lemmas.Bool.{ltb-false}
use Rattle.std.proofs.lemmas.List.Elements.{Contains-push}
use Rattle.cc_log.specs.Entries.{AreBefore}
use Rattle.cc_defs.specs.declared.event.Event.{Event}
use Rattle.cc_defs.specs.declared.event.Event.TheVariants as events
use Rattle.cc_defs.specs.declared.log.LogLine.{LogLine}
use Rattle.cc_defs.specs.declared.log.LogLine.TheVariants as lines
use Rattle.cc_defs.specs.declared.refusal.Refusal.{Refusal}
use Rattle.cc_defs.specs.ClauseLists.{ClauseList}
use Rattle.cc_defs.specs.Clauses.{Literal}
use Rattle.cc_defs.specs.Limits.{most_clauses, most_histories, most_variables}
use Rattle.cc_defs.specs.LogVersions.{own_behind}
use Rattle.cc_defs.specs.Rows.{IsRow}
use Rattle.cc_defs.specs.Runs.{Step, Derive, Tell, AreFairSteps, counted_in, row_told, step_events}
use Rattle.cc_defs.specs.Sections.{row_denial}
use Rattle.cc_form.specs.Forms.{form_refusal}
use Rattle.cc_lists.specs.Subjects.{lines_of}
use Rattle.cc_tell.specs.EventTexts.{own_after}
use Rattle.cc_tell.specs.Tellers.{IsWritable}
use Rattle.cc_list.proofs.GoodClauses.{IsGood, chain_good, clause_few, denial_good, in_first, in_rest, row_few}
use Rattle.cc_list.proofs.Worth.{AreFew, all_both, event_in}

-- the lines from this number on can be said in version 2
abbrev pub AreWritable : (counts : Bool → ℕ → ℕ) → ℕ → List LogLine → Type 0
AreWritable counts own [] = Unit {0}
AreWritable counts own (line ∷ others) = IsWritable own line × AreWritable counts (own_behind counts own line) others

-- ---- what is within its limits

none_passed : (b : Bool) (refusal : Refusal) (rest : Option Refusal) → (if b then Some refusal else rest) ≡ None → (b ≡ false) × (rest ≡ None)
none_passed true refusal rest is = absurd cc
none_passed false refusal rest is = (refl, is)

or_none : (first second : Option Refusal) → option_or first second ≡ None → second ≡ None
or_none None second is = is
or_none (Some refusal) second is = absurd cc

low_where : (most number : ℕ) → nat_lt most number ≡ false → number ≤ most
low_where most number is = ltb-false most number is

form_low : (list : ClauseList) → form_refusal list ≡ None → (list.variables ≤ most_variables) × (length list.clauses ≤ most_clauses)
form_low list is =
    let first = none_passed (nat_lt most_variables list.variables) _ _ is in
    let second = none_passed (nat_lt most_clauses (length list.clauses)) _ _ first.1 in
    (low_where most_variables list.variables first.0, low_where most_clauses (length list.clauses) second.0)

pub section_low : (rules : Option Refusal) (list : ClauseList) → option_or rules (form_refusal list) ≡ None → (list.variables ≤ most_variables) × (length list.clauses ≤ most_clauses)
section_low rules list is = form_low list (or_none rules (form_refusal list) is)

-- ---- how many steps a section has

abbrev pub told_count : List Step → ℕ
told_count [] = 0
told_count (Derive clause chain ∷ steps) = told_count steps
told_count (Tell row ∷ steps) = 1 + told_count steps

-- nothing stands behind an empty clause
none_behind : (sizes : List ℕ) (before : List (List Literal)) (steps : List Step) (after : List (List Literal)) → AreFairSteps sizes (before ++ [] ∷ []) steps after → length steps ≡ 0
none_behind sizes before [] after fair = refl
none_behind sizes before (Derive clause chain ∷ steps) after fair = absurd (fair.0 (Contains-push before []))
none_behind sizes before (Tell row ∷ steps) after fair = absurd (fair.0 (Contains-push before []))

pub steps_few : (sizes : List ℕ) (before : List (List Literal)) (steps : List Step) (after : List (List Literal)) → AreFairSteps sizes before steps after →
    length steps ≤ counted_in steps + told_count steps + 1
steps_few sizes before [] after fair = omega arith
steps_few sizes before (Derive [] chain ∷ steps) after fair = let none = none_behind sizes before steps after fair.2 in omega arith
steps_few sizes before (Derive (literal ∷ clause) chain ∷ steps) after fair =
    let rest = steps_few sizes (before ++ (literal ∷ clause) ∷ []) steps after fair.2 in omega arith
steps_few sizes before (Tell row ∷ steps) after fair =
    let rest = steps_few sizes (before ++ row_denial sizes row ∷ []) steps after fair.1 in omega arith

pub few_rest : (first : Event) (others : List Event) → AreFew (first ∷ others) → AreFew others
few_rest first others few = λ horizon number there. few horizon number (in_rest first (events.History horizon number) others there)

pub told_few : (horizon number : ℕ) (steps : List Step) → AreFew (map event_in (step_events horizon number steps)) → number ≤ most_histories + 1 →
    number + told_count steps ≤ most_histories + 1
told_few horizon number [] few low = omega arith
told_few horizon number (Derive clause chain ∷ steps) few low =
    told_few horizon number steps (few_rest (events.Log (lines.Derived clause chain)) (map event_in (step_events horizon number steps)) few) low
told_few horizon number (Tell row ∷ steps) few low =
    let rest = map event_in (step_events horizon (number + 1) steps) in
    let here : number ≤ most_histories = few horizon number (in_first (events.History horizon number) (events.Log (lines.Block row) ∷ rest)) in
    let more = told_few horizon (number + 1) steps
    (few_rest (events.Log (lines.Block row)) rest (few_rest (events.History horizon number) (events.Log (lines.Block row) ∷ rest) few)) (omega arith) in
    omega arith

-- ---- the lines of steps

push_length : (before : List (List Literal)) (clause : List Literal) → length (before ++ clause ∷ []) ≡ length before + 1
push_length before clause = length-append before (clause ∷ [])

module _ (counts : Bool → ℕ → ℕ) (variables : ℕ) (sizes : List ℕ) (low : variables ≤ most_variables) (positions : sum sizes ≤ variables) where
  -- from this number on they can be written, and this is the number behind them
  abbrev Go : ℕ → List LogLine → ℕ → Type 0
  Go own all behind = AreWritable counts own all × (own_after counts own all ≡ behind)

  pub steps_go : (horizon number : ℕ) (before : List (List Literal)) (steps : List Step) (after : List (List Literal)) → AreFairSteps sizes before steps after →
      AllByRecursion (IsGood variables) before → AllByRecursion (IsRow sizes) (flat_map row_told steps) → length before + length steps + 1 ≤ 999999999 →
      (own : ℕ) → own ≡ length before + 1 → Go own (lines_of (step_events horizon number steps)) (length before + length steps + 1)
  steps_go horizon number before [] after fair all rows few own is = (tt, omega arith)
  steps_go horizon number before (Derive clause chain ∷ steps) after fair all rows few own is =
      let there = chain_good variables before all chain clause fair.1.reached in
      let short = clause_few variables clause there.0 in
      let chain_short = fair.1.short in
      let push = push_length before clause in
      let more = steps_go horizon number (before ++ clause ∷ []) steps after fair.2 (all_both (IsGood variables) before (clause ∷ []) all (there.0, tt)) rows (omega arith) (own + 1) (omega arith) in
      let behind = more.1 in
      (((omega arith, (omega arith, omega arith), subst (λ (n : ℕ). AreBefore n chain) (sym is) there.1), more.0), omega arith)
  steps_go horizon number before (Tell row ∷ steps) after fair all rows few own is =
      let short = row_few sizes row rows.0 in
      let push = push_length before (row_denial sizes row) in
      let more = steps_go horizon (number + 1) (before ++ row_denial sizes row ∷ []) steps after fair.1
      (all_both (IsGood variables) before (row_denial sizes row ∷ []) all (denial_good variables sizes row positions rows.0, tt)) rows.1 (omega arith) (own + 1) (omega arith) in
      let behind = more.1 in
      (((omega arith, omega arith, tt), more.0), omega arith)
