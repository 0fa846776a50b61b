-- What closed assignments give, how many lines a search can derive, and by which choices the least row is found.
use Rattle.std.specs.Prelude.{◌≡◌, ◌≢◌, ℕ, ◌<◌, ◌^◌, ◌⊎◌, List, [], ◌∷◌, ◌++◌, None, Contains, IsTrue}
use Rattle.std.specs.List.{AllByRecursion}
use Rattle.cc_clauses.specs.RowsOf.{IsLeastRowOf}
use Rattle.cc_defs.specs.Assignments.{Values, IsClosed, IsFailed, IsEarned, HasOpen}
use Rattle.cc_defs.specs.ClauseLists.{positions_from}
use Rattle.cc_defs.specs.Clauses.{Literal, IsIn, IsOver, Clash, IsResolvent, meets, opposite}
use Rattle.cc_trail.specs.declared.entries.Step.{Step}
use Rattle.cc_trail.specs.Steps.{AreSteps, steps_to, values_of}
use Rattle.cc_trail.specs.Trails.{TrailView, KeepsSettled, IsSettledOver, decided}
use Rattle.cc_trail.specs.Watches.{AreReasoned, IsFalseBy}
use Rattle.cc_cdcl.specs.Analysis.{AreFalseBy, HasTwoOf, IsLearned}
use Rattle.cc_cdcl.specs.Choices.{AreChosen, IsNext}
use Rattle.cc_cdcl.specs.Earned.{Line, AreEarnedBehind, earned_count}
use Rattle.cc_cdcl.specs.LeastRows.{row_of}
use Rattle.cc_cdcl.specs.Sets.{intersection, assignment_of, IsFull}

-- what two closed assignments give alike is closed
abbrev pub ClosedMeet : Type 0
ClosedMeet = (clauses : List (List Literal)) (a b : Values) → IsClosed a clauses → IsClosed b clauses → IsClosed (intersection a b) clauses

-- a closed assignment that gives every variable a value meets the clauses
abbrev pub FullClosedMeets : Type 0
FullClosedMeets = (variables : ℕ) (clauses : List (List Literal)) (values : Values) → AllByRecursion (IsOver variables) clauses → IsFull variables values →
    IsClosed values clauses → (clause : List Literal) → Contains clauses clause → IsTrue (meets (assignment_of values) clause)

-- Lines that are earned, behind axioms that leave so many variables open, are fewer than the power of 3.
abbrev pub EarnedLinesAreFew : Type 0
EarnedLinesAreFew = (variables : ℕ) (axioms : List (List Literal)) (lines : List Line) (opens : ℕ) → AllByRecursion (IsOver variables) axioms →
    AreEarnedBehind variables axioms lines → HasOpen variables axioms opens → earned_count lines < 3 ^ opens

-- An earned clause is none of the clauses, and contains none of them.
abbrev pub EarnedClausesAreNew : Type 0
EarnedClausesAreNew = (clauses : List (List Literal)) (clause earlier : List Literal) → IsEarned clauses clause → Contains clauses earlier →
    ((literal : Literal) → Contains earlier literal → Contains clause literal) → ⊥

-- Whatever the axioms are, so and so many variables are open.
abbrev pub OpenVariablesExist : Type 0
OpenVariablesExist = (variables : ℕ) (axioms : List (List Literal)) → (opens : ℕ) × HasOpen variables axioms opens

-- Of clauses by which each position has exactly one value, the least row is that of steps that were chosen so, if what they
-- make true is closed and gives every variable a value.
abbrev pub LeastRowIsFound : Type 0
LeastRowIsFound = (sizes : List ℕ) (variables : ℕ) (clauses : List (List Literal)) (steps : List Step) → AllByRecursion (IsOver variables) clauses →
    ((clause : List Literal) → Contains (positions_from 1 sizes) clause → Contains clauses clause) → AreReasoned clauses steps → AreChosen sizes steps →
    IsFull variables (values_of steps) → IsClosed (values_of steps) clauses → IsLeastRowOf sizes clauses (row_of sizes (assignment_of (values_of steps)))

-- steps with a reason, and such choices, are added to steps that were chosen so; and they can be taken away
abbrev pub ChoicesAreKept : Type 0
ChoicesAreKept = (sizes : List ℕ) (steps : List Step) →
    ((last : Step) → AreChosen sizes steps → last.reason ≢ None → AreChosen sizes (steps ++ last ∷ [])) ×
    ((trail : TrailView) (literal : Literal) → AreChosen sizes trail.steps → IsNext sizes (values_of trail.steps) literal → AreChosen sizes (decided trail literal).steps) ×
    ((gone : List Step) → AreChosen sizes (steps ++ gone) → AreChosen sizes steps)

-- A clause that is false by a settled trail has two literals of the last level, unless no level was opened.
abbrev pub FalseClauseHasTwo : Type 0
FalseClauseHasTwo = (variables : ℕ) (steps : List Step) (level_count : ℕ) (clauses : List (List Literal)) (clause : List Literal) → AreSteps variables steps level_count →
    IsSettledOver steps level_count clauses → Contains clauses clause → IsFailed (values_of steps) clause → (level_count ≡ 0) ⊎ HasTwoOf steps level_count clause

-- Where the last step of a front made a literal of a false clause false, the clause and the step's reason clash on its
-- variable, and their resolvent is false by the shorter front.
abbrev pub ResolventIsFalse : Type 0
ResolventIsFalse = (front : List Step) (last : Step) (clause reason : List Literal) → ((other : Step) → IsIn front other → other.lit.variable ≢ last.lit.variable) →
    AreFalseBy (front ++ last ∷ []) clause → Contains clause (opposite last.lit) → Contains reason last.lit →
    ((other : Literal) → Contains reason other → (other ≡ last.lit) ⊎ IsFalseBy front other) →
    Clash clause reason last.lit.variable × ((resolvent : List Literal) → IsResolvent clause reason last.lit.variable resolvent → AreFalseBy front resolvent)

-- Where it made none of them false, the clause is false by the shorter front.
abbrev pub OtherIsFalse : Type 0
OtherIsFalse = (front : List Step) (last : Step) (clause : List Literal) → AreFalseBy (front ++ last ∷ []) clause → (Contains clause (opposite last.lit) → ⊥) →
    AreFalseBy front clause

-- A learned clause is earned, and once the higher levels are gone back, adding it keeps the trail settled.
abbrev pub LearnedIsEarned : Type 0
LearnedIsEarned = (variables : ℕ) (steps : List Step) (level_count : ℕ) (clauses : List (List Literal)) (clause : List Literal) (back : ℕ) →
    AreSteps variables steps level_count → IsSettledOver steps level_count clauses → IsLearned steps level_count clause back →
    IsEarned clauses clause × KeepsSettled (steps_to back steps) back clause
