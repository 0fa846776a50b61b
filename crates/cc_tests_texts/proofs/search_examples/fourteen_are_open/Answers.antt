-- The atoms and the first disjunctions have no value where T and the second disjunctions are true: their numbers are odd.
use Rattle.std.proofs.Common.{Bool, true, ◌==◌, ◌%◌, ◌&&◌, Option, Some, None, nat_lt, if◌then◌else◌, List, [], ◌∷◌, refl}
use Rattle.cc_defs.specs.Assignments.{Values}
use Rattle.cc_tests_texts.specs.SearchExamples.{clauses_of, all_of_three}
use Rattle.cc_tests_texts.proofs.Deciding.{are_open, ascending}
use Rattle.cc_tests_texts.proofs.search_examples.fourteen_are_open.Goals as goal

abbrev odd_behind : Values
odd_behind variable = if nat_lt 6 variable && (variable % 2 == 1) then Some true else None

pub returns : goal.returns
returns c = are_open odd_behind 23 (clauses_of all_of_three) (1 ∷ 2 ∷ 3 ∷ 4 ∷ 5 ∷ 6 ∷ 8 ∷ 10 ∷ 12 ∷ 14 ∷ 16 ∷ 18 ∷ 20 ∷ 22 ∷ []) (ascending _ refl) refl refl refl
