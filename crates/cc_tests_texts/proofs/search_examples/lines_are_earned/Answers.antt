-- The atoms have no value; T and the disjunctions, which stand in clauses of one literal, are true.
use Rattle.std.proofs.Common.{Bool, true, Option, Some, None, nat_lt, if◌then◌else◌, [], ◌∷◌, refl, arith}
use Rattle.cc_defs.specs.Assignments.{Values}
use Rattle.cc_tests_texts.specs.SearchExamples.{clauses_of, all_of_two, yes_of}
use Rattle.cc_tests_texts.proofs.Deciding.{closed, alone_is_unit, there_is_not_earned}
use Rattle.cc_tests_texts.proofs.search_examples.lines_are_earned.Goals as goal

abbrev settled_behind : Values
settled_behind variable = if nat_lt 4 variable then Some true else None

pub returns : goal.returns
returns c = (
  record {
    values = settled_behind;
    closed = closed settled_behind (clauses_of all_of_two) refl;
    unit = alone_is_unit settled_behind (yes_of 2) refl;
  },
  λ earned. there_is_not_earned (clauses_of all_of_two) (yes_of 6 ∷ []) (17, omega arith, refl) earned,
)
