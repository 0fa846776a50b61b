-- Small clause lists, logs and runs that are known beforehand: they show what the definitions of the search say.
use Rattle.std.specs.Prelude.{◌≡◌, ℕ, Bool, true, false, List, [], ◌∷◌, ◌++◌, Option, Some, None}
use Rattle.cc_defs.specs.declared.event.Ending.TheVariants as endings
use Rattle.cc_defs.specs.declared.event.Event.TheVariants as events
use Rattle.cc_defs.specs.declared.log.Cause.TheVariants as causes
use Rattle.cc_defs.specs.declared.log.EndWord.{EndWord}
use Rattle.cc_defs.specs.declared.log.EndWord.TheVariants as words
use Rattle.cc_defs.specs.declared.log.LogLine.TheVariants as lines
use Rattle.cc_defs.specs.declared.log.LogVerdict.TheVariants as verdicts
use Rattle.cc_defs.specs.declared.signature.At.TheVariants.{Number, Last}
use Rattle.cc_defs.specs.declared.signature.Kind.TheVariants as kinds
use Rattle.cc_defs.specs.declared.signature.LawKind.TheVariants as law_kinds
use Rattle.cc_defs.specs.Assignments.{IsEarned, AreOpen}
use Rattle.cc_defs.specs.ClauseForms.{positive}
use Rattle.cc_defs.specs.ClauseLists.{clause_list}
use Rattle.cc_defs.specs.Clauses.{Literal, opposite}
use Rattle.cc_defs.specs.Description.{Description}
use Rattle.cc_tests_texts.specs.Examples.{boolean, fluents_with_laws, has, law_for, lamp, two_simple}
use Rattle.cc_defs.specs.declared.log.Version.TheVariants.{First, Second}
use Rattle.cc_defs.specs.LogBytes.{IsEntry, entry_bytes, line_meant, literal_bytes, number_bytes}
use Rattle.cc_defs.specs.LogTexts.{header}
use Rattle.cc_defs.specs.Logs.{Subject, IsVerdict}
use Rattle.cc_defs.specs.Resolved.{Formula, Not, Both, Either, Falsity, BaseLaw, Condition, Query}
use Rattle.cc_defs.specs.Runs.{Ask, axioms_of, logged, told, told_row, AreFair}
use Rattle.cc_defs.specs.Sections.{Axioms, IsRightSection}

-- a literal of each sign
abbrev pub yes_of : ℕ → Literal
yes_of variable = positive variable

abbrev pub not_of : ℕ → Literal
not_of variable = opposite (positive variable)

-- ---- clause lists

abbrev pub query_with : (lo hi : ℕ) → List Condition → Option Condition → Query
query_with lo hi conditions claim = record { label = None; range = Some (lo, hi); conditions = conditions; claim = claim; file = 0; line = 1 }

abbrev pub at : ℕ → Formula → Condition
at step formula = record { at = Number step; formula = formula }

-- `0: -on; maxstep: on`
abbrev pub lamp_is_turned_on : Query
lamp_is_turned_on = query_with 0 2 (at 0 (Not (has 0 1)) ∷ record { at = Last; formula = has 0 1 } ∷ []) None

abbrev pub LampHasFiveClauses : Type 0
LampHasFiveClauses = clause_list lamp lamp_is_turned_on 0 false None ≡ record {
  variables = 3;
  clauses = (yes_of 3 ∷ []) ∷ (yes_of 1 ∷ yes_of 2 ∷ []) ∷ (not_of 1 ∷ not_of 2 ∷ []) ∷ (not_of 2 ∷ []) ∷ (yes_of 2 ∷ []) ∷ [];
}

-- at horizon 1: the lamp off and on have the variables 1 and 2, no flip and a flip 3 and 4, off and on at step 1 5 and 6
abbrev pub lamp_clauses : List (List Literal)
lamp_clauses =
    (yes_of 7 ∷ []) ∷ (yes_of 1 ∷ yes_of 2 ∷ []) ∷ (not_of 1 ∷ not_of 2 ∷ []) ∷ (yes_of 3 ∷ yes_of 4 ∷ []) ∷ (not_of 3 ∷ not_of 4 ∷ [])
    ∷ (yes_of 5 ∷ yes_of 6 ∷ []) ∷ (not_of 5 ∷ not_of 6 ∷ [])
    ∷ (yes_of 5 ∷ not_of 8 ∷ []) ∷ (yes_of 1 ∷ not_of 8 ∷ []) ∷ (not_of 1 ∷ not_of 5 ∷ yes_of 8 ∷ [])
    ∷ (yes_of 6 ∷ not_of 9 ∷ []) ∷ (yes_of 2 ∷ not_of 9 ∷ []) ∷ (not_of 2 ∷ not_of 6 ∷ yes_of 9 ∷ [])
    ∷ (yes_of 4 ∷ not_of 10 ∷ []) ∷ (not_of 2 ∷ not_of 10 ∷ []) ∷ (yes_of 2 ∷ not_of 4 ∷ yes_of 10 ∷ [])
    ∷ (yes_of 4 ∷ not_of 11 ∷ []) ∷ (yes_of 2 ∷ not_of 11 ∷ []) ∷ (not_of 2 ∷ not_of 4 ∷ yes_of 11 ∷ [])
    ∷ (not_of 5 ∷ yes_of 8 ∷ yes_of 11 ∷ []) ∷ (yes_of 5 ∷ not_of 8 ∷ []) ∷ (yes_of 5 ∷ not_of 11 ∷ [])
    ∷ (not_of 6 ∷ yes_of 9 ∷ yes_of 10 ∷ []) ∷ (yes_of 6 ∷ not_of 9 ∷ []) ∷ (yes_of 6 ∷ not_of 10 ∷ []) ∷ []

abbrev pub LampHasTwentySevenClauses : Type 0
LampHasTwentySevenClauses = clause_list lamp lamp_is_turned_on 1 false None ≡ record {
  variables = 11;
  clauses = lamp_clauses ++ (not_of 2 ∷ []) ∷ (yes_of 6 ∷ []) ∷ [];
}

-- After the key `0:0,1` of two free fluents, whose atoms have the variables 1 to 4: the first is greater, or it is equal and the
-- second is greater, of which nothing is left.
abbrev pub KeysAreClauses : Type 0
KeysAreClauses = clause_list two_simple (query_with 0 0 [] None) 0 false (Some (record { horizon = 0; row = 0 ∷ 1 ∷ [] })) ≡ record {
  variables = 9;
  clauses = (yes_of 5 ∷ []) ∷ (yes_of 1 ∷ yes_of 2 ∷ []) ∷ (not_of 1 ∷ not_of 2 ∷ []) ∷ (yes_of 3 ∷ yes_of 4 ∷ []) ∷ (not_of 3 ∷ not_of 4 ∷ [])
      ∷ (yes_of 4 ∷ not_of 6 ∷ []) ∷ (not_of 5 ∷ not_of 6 ∷ []) ∷ (not_of 4 ∷ yes_of 5 ∷ yes_of 6 ∷ [])
      ∷ (not_of 5 ∷ yes_of 6 ∷ not_of 7 ∷ []) ∷ (yes_of 5 ∷ yes_of 7 ∷ []) ∷ (not_of 6 ∷ yes_of 7 ∷ [])
      ∷ (yes_of 1 ∷ not_of 8 ∷ []) ∷ (yes_of 7 ∷ not_of 8 ∷ []) ∷ (not_of 1 ∷ not_of 7 ∷ yes_of 8 ∷ [])
      ∷ (yes_of 2 ∷ yes_of 8 ∷ not_of 9 ∷ []) ∷ (not_of 2 ∷ yes_of 9 ∷ []) ∷ (not_of 8 ∷ yes_of 9 ∷ []) ∷ (yes_of 9 ∷ []) ∷ [];
}

-- ---- what propagation leaves open

abbrev pub one_or : Bool → ℕ → Formula
one_or true symbol = has symbol 1
one_or false symbol = Not (has symbol 1)

-- `constraint p ++ q` with a sign for each
abbrev pub one_of_two : Bool → Bool → BaseLaw
one_of_two p q = law_for law_kinds.Static Falsity (Not (Either (one_or p 0) (one_or q 1))) None

abbrev pub all_of_two : Description
all_of_two = fluents_with_laws (boolean 0 kinds.Simple ∷ boolean 1 kinds.Simple ∷ [])
    (one_of_two true true ∷ one_of_two true false ∷ one_of_two false true ∷ one_of_two false false ∷ [])

abbrev pub one_of_three : Bool → Bool → Bool → BaseLaw
one_of_three p q r = law_for law_kinds.Static Falsity (Not (Either (Either (one_or p 0) (one_or q 1)) (one_or r 2))) None

abbrev pub all_of_three : Description
all_of_three = fluents_with_laws (boolean 0 kinds.Simple ∷ boolean 1 kinds.Simple ∷ boolean 2 kinds.Simple ∷ [])
    (one_of_three true true true ∷ one_of_three true true false ∷ one_of_three true false true ∷ one_of_three true false false
    ∷ one_of_three false true true ∷ one_of_three false true false ∷ one_of_three false false true ∷ one_of_three false false false ∷ [])

abbrev pub clauses_of : Description → List (List Literal)
clauses_of d = (clause_list d (query_with 0 0 [] None) 0 false None).clauses

-- Of 9 variables those of the atoms are open; the others are settled by clauses of one literal.
abbrev pub FourAreOpen : Type 0
FourAreOpen = AreOpen 9 (clauses_of all_of_two) (1 ∷ 2 ∷ 3 ∷ 4 ∷ [])

-- Of 23 those of the atoms, and those of the first disjunction of each constraint.
abbrev pub FourteenAreOpen : Type 0
FourteenAreOpen = AreOpen 23 (clauses_of all_of_three) (1 ∷ 2 ∷ 3 ∷ 4 ∷ 5 ∷ 6 ∷ 8 ∷ 10 ∷ 12 ∷ 14 ∷ 16 ∷ 18 ∷ 20 ∷ 22 ∷ [])

-- That p is true is earned; that the first constraint's disjunction is true is none that propagation would not give.
abbrev pub LinesAreEarned : Type 0
LinesAreEarned = IsEarned (clauses_of all_of_two) (yes_of 2 ∷ []) × (IsEarned (clauses_of all_of_two) (yes_of 6 ∷ []) → ⊥)

-- ---- sections

-- the clauses 2, 4 and 5 of the lamp at horizon 0 give the empty clause; clause 4 alone does not
abbrev pub lamp_at_first : Axioms
lamp_at_first = axioms_of lamp lamp_is_turned_on None false 0

abbrev pub SectionsAreRight : Type 0
SectionsAreRight =
    IsRightSection lamp_at_first (lines.Derived [] (4 ∷ 2 ∷ 5 ∷ []) ∷ []) words.Empty
    × ((word : EndWord) → IsRightSection lamp_at_first (lines.Derived [] (4 ∷ []) ∷ []) word → ⊥)
    × (IsRightSection lamp_at_first [] words.Empty → ⊥)
    × (IsRightSection lamp_at_first (lines.Block (0 ∷ 1 ∷ []) ∷ []) words.Found → ⊥)

-- a log without a line is wrong at its header, and one of a header alone behind it
abbrev pub EmptyLogsAreWrong : Type 0
EmptyLogsAreWrong = (subject : Subject) → IsVerdict subject [] (verdicts.Refused 1 causes.Header) × IsVerdict subject header (verdicts.Refused 2 causes.Section)

-- ---- claims

abbrev pub ask_all : Ask
ask_all = record { count = None; budget = 200000; after = None }

-- Where the lamp is off and is flipped, it is on: a path meets the conditions, and with the claim denied there is none.
abbrev pub flip_turns_on : Query
flip_turns_on = query_with 1 1 (at 0 (Both (Not (has 0 1)) (has 1 1)) ∷ []) (Some (at 1 (has 0 1)))

abbrev pub ClaimsThatHoldAreTold : Type 0
ClaimsThatHoldAreTold = AreFair lamp flip_turns_on ask_all (
    logged (lines.Section true 1) ∷ logged (lines.End words.Found)
    ∷ logged (lines.Section false 1) ∷ logged (lines.Derived [] (16 ∷ 10 ∷ 25 ∷ 6 ∷ 30 ∷ 4 ∷ 27 ∷ 2 ∷ 26 ∷ 12 ∷ 29 ∷ [])) ∷ logged (lines.End words.Empty)
    ∷ told (events.Holds 1) ∷ told (events.Ended endings.ClaimHolds) ∷ [])

-- The lamp is not both on and off: no path meets the conditions.
abbrev pub on_and_off : Query
on_and_off = query_with 0 0 (at 0 (Both (has 0 1) (Not (has 0 1))) ∷ []) (Some (at 0 (has 0 1)))

abbrev pub ClaimsOfNothingAreTold : Type 0
ClaimsOfNothingAreTold = AreFair lamp on_and_off ask_all (
    logged (lines.Section true 0) ∷ logged (lines.Derived [] (4 ∷ 2 ∷ 5 ∷ 4 ∷ 6 ∷ [])) ∷ logged (lines.End words.Empty)
    ∷ told (events.NoConditions 0) ∷ told (events.Ended endings.ClaimEmpty) ∷ [])

-- A lamp that is on at the end was not off before: it may have been on all along.
abbrev pub on_was_off : Query
on_was_off = query_with 1 1 (at 1 (has 0 1) ∷ []) (Some (at 0 (Not (has 0 1))))

abbrev pub ClaimsThatFailAreTold : Type 0
ClaimsThatFailAreTold = AreFair lamp on_was_off ask_all (
    logged (lines.Section true 1) ∷ logged (lines.End words.Found)
    ∷ logged (lines.Section false 1) ∷ logged (lines.End words.Found)
    ∷ told_row (events.Counterexample 1) (1 ∷ 0 ∷ 1 ∷ []) ∷ told (events.Ended endings.ClaimFails) ∷ [])

-- ---- listings

-- The lamp cannot be off and on in a state; one step after it was off it is on where it is flipped. The listing of one history
-- that was asked for ends with it, and it is not denied.
abbrev pub ListingsAreTold : Type 0
ListingsAreTold = AreFair lamp lamp_is_turned_on (record ask_all { count = Some 1 }) (
    logged (lines.Section false 0) ∷ logged (lines.Derived [] (4 ∷ 2 ∷ 5 ∷ [])) ∷ logged (lines.End words.Empty) ∷ told (events.NoHistory 0)
    ∷ logged (lines.Section false 1) ∷ told_row (events.History 1 1) (0 ∷ 1 ∷ 1 ∷ []) ∷ logged (lines.End words.Found)
    ∷ told (events.Ended (endings.Asked 1 1)) ∷ [])

-- ---- entries of version 2

-- the entries of the log that shows the lamp's one history of one step to be all, as far as the first end
abbrev pub EntriesAreWritten : Type 0
EntriesAreWritten =
    (number_bytes 0 ≡ 0 ∷ []) × (number_bytes 127 ≡ 127 ∷ []) × (number_bytes 128 ≡ 128 ∷ 1 ∷ [])
    × (number_bytes 1999999999 ≡ 255 ∷ 167 ∷ 214 ∷ 185 ∷ 7 ∷ [])
    × (literal_bytes (yes_of 64) ≡ 128 ∷ 1 ∷ []) × (literal_bytes (not_of 3) ≡ 7 ∷ [])
    × IsEntry (1 ∷ 0 ∷ []) (lines.Section false 0) × IsEntry (2 ∷ 1 ∷ []) (lines.Section true 1)
    × IsEntry (3 ∷ 0 ∷ 1 ∷ 2 ∷ 2 ∷ 1 ∷ []) (lines.Derived [] (2 ∷ 2 ∷ 1 ∷ []))
    × IsEntry (4 ∷ 3 ∷ 0 ∷ 1 ∷ 1 ∷ []) (lines.Block (0 ∷ 1 ∷ 1 ∷ []))
    × IsEntry (5 ∷ []) (lines.End words.Empty) × IsEntry (6 ∷ []) (lines.End words.Found) × IsEntry (7 ∷ []) (lines.End words.Spent)

-- a chain is named by distances from its own clause; one that is 0, or reaches no clause, names none that is earlier
abbrev pub DistancesAreMeant : Type 0
DistancesAreMeant =
    (line_meant Second 6 (lines.Derived [] (2 ∷ 2 ∷ 1 ∷ [])) ≡ lines.Derived [] (4 ∷ 2 ∷ 5 ∷ []))
    × (line_meant First 6 (lines.Derived [] (4 ∷ 2 ∷ 5 ∷ [])) ≡ lines.Derived [] (4 ∷ 2 ∷ 5 ∷ []))
    × (line_meant Second 6 (lines.Derived [] (0 ∷ [])) ≡ lines.Derived [] (6 ∷ []))
    × (line_meant Second 6 (lines.Derived [] (6 ∷ [])) ≡ lines.Derived [] (0 ∷ []))
    × (line_meant Second 6 (lines.Derived [] (9 ∷ [])) ≡ lines.Derived [] (0 ∷ []))
    × (line_meant Second 6 (lines.Block (0 ∷ 1 ∷ [])) ≡ lines.Block (0 ∷ 1 ∷ []))
