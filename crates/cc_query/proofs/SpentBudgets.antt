-- A budget that is spent is less than the power of 3 to the number of open variables.
use Rattle.std.proofs.Common.{◌≡◌, ◌∙◌, ℕ, ◌<◌, ◌≤◌, List, [], ◌∷◌, ◌++◌, map, refl, subst, arith}
use Rattle.std.specs.Prelude.{◌^◌, sum}
use Rattle.std.specs.List.{AllByRecursion}
use Rattle.cc_cdcl.specs.Earned.{Line, Derived, Given, AreEarnedBehind, IsEarnedBehind, earned_count}
use Rattle.cc_cdcl.specs.Laws.{EarnedLinesAreFew}
use Rattle.cc_defs.specs.Clauses.{Literal, IsOver}
use Rattle.cc_defs.specs.Rows.{IsRow}
use Rattle.cc_defs.specs.Runs.{Step, Derive, Tell, AreFairSteps, IsFairLine, counted_in}
use Rattle.cc_defs.specs.Sections.{row_denial}
use Rattle.cc_lists.specs.Sections.{rows_in}
use Rattle.cc_lists.proofs.AcceptedSections.{reached, over_resolved, denial_over}
use Rattle.cc_lists.proofs.Members.{all_append}
use Rattle.cc_query.specs.Laws.{SpentBudgetsAreSmall}

abbrev line_of : List ℕ → Step → Line
line_of sizes (Derive clause chain) = Derived clause
line_of sizes (Tell row) = Given (row_denial sizes row)

earned_line : (before : List (List Literal)) (clause : List Literal) (chain : List ℕ) → IsFairLine before clause chain → IsEarnedBehind before (Derived clause)
earned_line before [] chain fair = tt
earned_line before (literal ∷ literals) chain fair = fair.earned (λ is. cc)

earned_lines : (variables : ℕ) (sizes : List ℕ) → sum sizes ≤ variables → (before : List (List Literal)) (steps : List Step) (after : List (List Literal)) →
    AllByRecursion (IsOver variables) before → AllByRecursion (IsRow sizes) (rows_in steps) → AreFairSteps sizes before steps after →
    AreEarnedBehind variables before (map (line_of sizes) steps)
earned_lines variables sizes most before [] after over rows fair = tt
earned_lines variables sizes most before (Derive clause chain ∷ steps) after over rows (none, line, fair) =
    let is_over = reached (IsOver variables) (over_resolved variables) before over chain clause line.reached in (
      is_over,
      earned_line before clause chain line,
      earned_lines variables sizes most (before ++ clause ∷ []) steps after (all_append (IsOver variables) before (clause ∷ []) over (is_over, tt)) rows fair,
    )
earned_lines variables sizes most before (Tell row ∷ steps) after over rows (none, fair) =
    let is_over = denial_over variables sizes row most rows.0 in (
      is_over,
      tt,
      earned_lines variables sizes most (before ++ row_denial sizes row ∷ []) steps after (all_append (IsOver variables) before (row_denial sizes row ∷ []) over (is_over, tt)) rows.1 fair,
    )

counted_are_earned : (sizes : List ℕ) (steps : List Step) → earned_count (map (line_of sizes) steps) ≡ counted_in steps
counted_are_earned sizes [] = refl
counted_are_earned sizes (Derive [] chain ∷ steps) = let rest = counted_are_earned sizes steps in omega arith
counted_are_earned sizes (Derive (literal ∷ literals) chain ∷ steps) = let rest = counted_are_earned sizes steps in omega arith
counted_are_earned sizes (Tell row ∷ steps) = let rest = counted_are_earned sizes steps in omega arith

pub budgets_are_small : EarnedLinesAreFew → SpentBudgetsAreSmall
budgets_are_small few axioms budget section opens over most rows open_are fair spent =
    let lines = earned_lines axioms.variables axioms.sizes most axioms.clauses section.steps fair.clauses over rows fair.steps in
    let below = few axioms.variables axioms.clauses (map (line_of axioms.sizes) section.steps) opens over lines open_are in
    subst (λ (n : ℕ). n < 3 ^ opens) (counted_are_earned axioms.sizes section.steps ∙ fair.spent spent) below
