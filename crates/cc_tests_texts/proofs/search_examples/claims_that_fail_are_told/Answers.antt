-- The lamp that stays on is the least path that goes against the claim.
use Rattle.std.proofs.Common.{◌≡◌, ℕ, true, false, List, [], ◌∷◌, ◌++◌, Option, Some, None, refl, arith, inl, inr}
use Rattle.std.specs.List.{Contains}
use Rattle.cc_defs.specs.declared.event.Ending.TheVariants as endings
use Rattle.cc_defs.specs.declared.log.EndWord.{EndWord}
use Rattle.cc_defs.specs.declared.log.EndWord.TheVariants as words
use Rattle.cc_defs.specs.Clauses.{Literal}
use Rattle.cc_tests_texts.specs.Examples.{lamp}
use Rattle.cc_defs.specs.Resolved.{Query}
use Rattle.cc_defs.specs.Runs.{Run, Section, Failure, axioms_of, without_claim, OfConditions, OfClaim, LooksForOne}
use Rattle.cc_tests_texts.specs.SearchExamples.{on_was_off, ask_all}
use Rattle.cc_tests_texts.proofs.Deciding.{no_empty}
use Rattle.cc_tests_texts.proofs.Telling.{some_there, first_there}
use Rattle.cc_tests_texts.proofs.search_examples.claims_that_fail_are_told.Goals as goal

abbrev section : Section
section = record { steps = []; last = None; word = Some words.Found }

abbrev run : Run
run = record { done = []; next = Some (Failure section section (1 ∷ 0 ∷ 1 ∷ [])); ending = Some endings.ClaimFails }

abbrev of_all : List (List Literal)
of_all = (axioms_of lamp on_was_off None true 1).clauses

abbrev of_denied : List (List Literal)
of_denied = (axioms_of lamp on_was_off None false 1).clauses

of_conditions : OfConditions lamp on_was_off ask_all 1 section
of_conditions = record {
  fair = record {
    clauses = of_all;
    steps = refl;
    within = omega arith;
    ends = ((λ e. absurd cc), (λ c. absurd (no_empty of_all refl c)));
    spent = λ e. absurd cc;
  };
  silent = refl;
  none = λ e. absurd cc;
  some = λ e. some_there lamp (without_claim on_was_off) 1 (1 ∷ 0 ∷ 1 ∷ []) refl;
}

of_claim : OfClaim lamp on_was_off ask_all 1 section
of_claim = record {
  fair = record {
    clauses = of_denied;
    steps = refl;
    within = omega arith;
    ends = ((λ e. absurd cc), (λ c. absurd (no_empty of_denied refl c)));
    spent = λ e. absurd cc;
  };
  silent = refl;
  none = λ e. absurd cc;
  some = λ e. some_there lamp on_was_off 1 (1 ∷ 0 ∷ 1 ∷ []) refl;
}

pub returns : goal.returns
returns c = (
  run,
  record {
    done = tt;
    next = (omega arith, (refl, of_conditions, refl, of_claim, refl, first_there lamp on_was_off 1 (1 ∷ 0 ∷ 1 ∷ []) refl refl));
    within = omega arith;
    ending = tt;
  },
  refl,
)
