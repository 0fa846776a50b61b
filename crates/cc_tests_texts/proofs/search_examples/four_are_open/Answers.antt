-- The atoms have no value where all others are true.
use Rattle.std.proofs.Common.{Bool, true, Option, Some, None, nat_lt, if◌then◌else◌, List, [], ◌∷◌, refl}
use Rattle.cc_defs.specs.Assignments.{Values}
use Rattle.cc_tests_texts.specs.SearchExamples.{clauses_of, all_of_two}
use Rattle.cc_tests_texts.proofs.Deciding.{are_open, ascending}
use Rattle.cc_tests_texts.proofs.search_examples.four_are_open.Goals as goal

abbrev settled_behind : Values
settled_behind variable = if nat_lt 4 variable then Some true else None

pub returns : goal.returns
returns c = are_open settled_behind 9 (clauses_of all_of_two) (1 ∷ 2 ∷ 3 ∷ 4 ∷ []) (ascending _ refl) refl refl refl
