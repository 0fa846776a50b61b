-- No state is off and on; the least path that is off and then on is told, and ends the listing.
use Rattle.std.proofs.Common.{◌≡◌, ℕ, true, false, List, [], ◌∷◌, ◌++◌, Option, Some, None, refl, arith, inl, inr}
use Rattle.std.specs.List.{Contains}
use Rattle.cc_defs.specs.declared.event.Ending.TheVariants as endings
use Rattle.cc_defs.specs.declared.log.EndWord.{EndWord}
use Rattle.cc_defs.specs.declared.log.EndWord.TheVariants as words
use Rattle.cc_defs.specs.Clauses.{Literal}
use Rattle.cc_tests_texts.specs.Examples.{lamp}
use Rattle.cc_defs.specs.Runs.{Ask, Run, Section, Histories, Derive, axioms_of, TellsHistories}
use Rattle.cc_tests_texts.specs.SearchExamples.{lamp_is_turned_on, ask_all}
use Rattle.cc_tests_texts.proofs.Deciding.{no_empty, reached}
use Rattle.cc_tests_texts.proofs.Telling.{none_there, first_there, none_are_first}
use Rattle.cc_tests_texts.proofs.search_examples.listings_are_told.Goals as goal

abbrev ask : Ask
ask = record ask_all { count = Some 1 }

abbrev empty : Section
empty = record { steps = Derive [] (4 ∷ 2 ∷ 5 ∷ []) ∷ []; last = None; word = Some words.Empty }

abbrev turned : Section
turned = record { steps = []; last = Some (0 ∷ 1 ∷ 1 ∷ []); word = Some words.Found }

abbrev run : Run
run = record { done = Histories empty ∷ []; next = Some (Histories turned); ending = Some (endings.Asked 1 1) }

abbrev at_first : List (List Literal)
at_first = (axioms_of lamp lamp_is_turned_on None false 0).clauses

abbrev at_second : List (List Literal)
at_second = (axioms_of lamp lamp_is_turned_on None false 1).clauses

of_first : TellsHistories lamp lamp_is_turned_on ask 0 empty
of_first = record {
  fair = record {
    clauses = at_first ++ [] ∷ [];
    steps = (no_empty at_first refl, record { reached = reached at_first (4 ∷ 2 ∷ 5 ∷ []) [] refl; earned = λ some. absurd (some refl); short = omega arith }, refl);
    within = omega arith;
    ends = ((λ e. (5, omega arith, refl)), (λ c. refl));
    spent = λ e. absurd cc;
  };
  first = none_are_first lamp lamp_is_turned_on 0 (none_there lamp lamp_is_turned_on 0 refl);
  asked = omega arith;
  denied = omega arith;
  all_told = λ e. none_there lamp lamp_is_turned_on 0 refl;
  enough = λ e. absurd cc;
  undenied = λ some. absurd cc;
}

of_second : TellsHistories lamp lamp_is_turned_on ask 1 turned
of_second = record {
  fair = record {
    clauses = at_second;
    steps = refl;
    within = omega arith;
    ends = ((λ e. absurd cc), (λ c. absurd (no_empty at_second refl c)));
    spent = λ e. absurd cc;
  };
  first = first_there lamp lamp_is_turned_on 1 (0 ∷ 1 ∷ 1 ∷ []) refl refl;
  asked = omega arith;
  denied = omega arith;
  all_told = λ e. absurd cc;
  enough = λ e. refl;
  undenied = λ some word. refl;
}

pub returns : goal.returns
returns c = (
  run,
  record {
    done = ((refl, of_first), (refl, refl, refl), tt);
    next = (omega arith, (refl, of_second));
    within = omega arith;
    ending = (refl, refl, refl);
  },
  refl,
)
