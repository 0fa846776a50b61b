-- A flip meets the conditions; the chain is computed, and no path goes against the claim.
use Rattle.std.proofs.Common.{◌≡◌, ℕ, true, false, List, [], ◌∷◌, ◌++◌, Option, Some, None, refl, arith, inl, inr}
use Rattle.std.specs.List.{Contains}
use Rattle.cc_defs.specs.declared.event.Ending.TheVariants as endings
use Rattle.cc_defs.specs.declared.log.EndWord.{EndWord}
use Rattle.cc_defs.specs.declared.log.EndWord.TheVariants as words
use Rattle.cc_defs.specs.Clauses.{Literal}
use Rattle.cc_tests_texts.specs.Examples.{lamp}
use Rattle.cc_defs.specs.Runs.{Run, Section, Claim, Derive, axioms_of, without_claim, OfConditions, OfClaim}
use Rattle.cc_tests_texts.specs.SearchExamples.{flip_turns_on, ask_all}
use Rattle.cc_tests_texts.proofs.Deciding.{no_empty, reached}
use Rattle.cc_tests_texts.proofs.Telling.{none_there, some_there}
use Rattle.cc_tests_texts.proofs.search_examples.claims_that_hold_are_told.Goals as goal

abbrev conditions : Section
conditions = record { steps = []; last = None; word = Some words.Found }

abbrev chain : List ℕ
chain = 16 ∷ 10 ∷ 25 ∷ 6 ∷ 30 ∷ 4 ∷ 27 ∷ 2 ∷ 26 ∷ 12 ∷ 29 ∷ []

abbrev claim : Section
claim = record { steps = Derive [] chain ∷ []; last = None; word = Some words.Empty }

abbrev run : Run
run = record { done = Claim conditions claim ∷ []; next = None; ending = Some endings.ClaimHolds }

abbrev of_all : List (List Literal)
of_all = (axioms_of lamp flip_turns_on None true 1).clauses

abbrev of_denied : List (List Literal)
of_denied = (axioms_of lamp flip_turns_on None false 1).clauses

of_conditions : OfConditions lamp flip_turns_on ask_all 1 conditions
of_conditions = record {
  fair = record {
    clauses = of_all;
    steps = refl;
    within = omega arith;
    ends = ((λ e. absurd cc), (λ c. absurd (no_empty of_all refl c)));
    spent = λ e. absurd cc;
  };
  silent = refl;
  none = λ e. absurd cc;
  some = λ e. some_there lamp (without_claim flip_turns_on) 1 (0 ∷ 1 ∷ 1 ∷ []) refl;
}

of_claim : OfClaim lamp flip_turns_on ask_all 1 claim
of_claim = record {
  fair = record {
    clauses = of_denied ++ [] ∷ [];
    steps = (no_empty of_denied refl, record { reached = reached of_denied chain [] refl; earned = λ some. absurd (some refl); short = omega arith }, refl);
    within = omega arith;
    ends = ((λ e. (30, omega arith, refl)), (λ c. refl));
    spent = λ e. absurd cc;
  };
  silent = refl;
  none = λ e. none_there lamp flip_turns_on 1 refl;
  some = λ e. absurd cc;
}

pub returns : goal.returns
returns c = (
  run,
  record {
    done = ((refl, of_conditions, refl, of_claim), refl, tt);
    next = tt;
    within = omega arith;
    ending = (refl, (refl, λ all. all.0));
  },
  refl,
)
