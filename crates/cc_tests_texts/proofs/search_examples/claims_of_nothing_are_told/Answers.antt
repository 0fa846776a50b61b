-- The chain is computed, and that no state meets the conditions is found by going through all.
use Rattle.std.proofs.Common.{◌≡◌, ℕ, true, List, [], ◌∷◌, ◌++◌, Option, Some, None, refl, arith}
use Rattle.std.specs.List.{Contains}
use Rattle.cc_defs.specs.declared.event.Ending.TheVariants as endings
use Rattle.cc_defs.specs.declared.log.EndWord.TheVariants as words
use Rattle.cc_defs.specs.Clauses.{Literal}
use Rattle.cc_tests_texts.specs.Examples.{lamp}
use Rattle.cc_defs.specs.Runs.{Run, Section, Conditions, Derive, axioms_of, without_claim, OfConditions}
use Rattle.cc_tests_texts.specs.SearchExamples.{on_and_off, ask_all}
use Rattle.cc_tests_texts.proofs.Deciding.{no_empty, reached}
use Rattle.cc_tests_texts.proofs.Telling.{none_there}
use Rattle.cc_tests_texts.proofs.search_examples.claims_of_nothing_are_told.Goals as goal

abbrev section : Section
section = record { steps = Derive [] (4 ∷ 2 ∷ 5 ∷ 4 ∷ 6 ∷ []) ∷ []; last = None; word = Some words.Empty }

abbrev run : Run
run = record { done = Conditions section ∷ []; next = None; ending = Some endings.ClaimEmpty }

abbrev axioms : List (List Literal)
axioms = (axioms_of lamp on_and_off None true 0).clauses

of_conditions : OfConditions lamp on_and_off ask_all 0 section
of_conditions = record {
  fair = record {
    clauses = axioms ++ [] ∷ [];
    steps = (no_empty axioms refl, record { reached = reached axioms (4 ∷ 2 ∷ 5 ∷ 4 ∷ 6 ∷ []) [] refl; earned = λ some. absurd (some refl); short = omega arith }, refl);
    within = omega arith;
    ends = ((λ e. (6, omega arith, refl)), (λ c. refl));
    spent = λ e. absurd cc;
  };
  silent = refl;
  none = λ e. none_there lamp (without_claim on_and_off) 0 refl;
  some = λ e. absurd cc;
}

pub returns : goal.returns
returns c = (
  run,
  record {
    done = ((refl, of_conditions), refl, tt);
    next = tt;
    within = omega arith;
    ending = (refl, (refl, (tt, tt)));
  },
  refl,
)
