-- The chain is computed; without the empty clause no section ends with `empty`.
use Rattle.std.proofs.Common.{◌≡◌, ℕ, List, [], ◌∷◌, ◌++◌, Some, refl, sym, ap, subst, ◌∙◌, arith}
use Rattle.cc_defs.specs.Clauses.{Literal}
use Rattle.std.specs.List.{Contains}
use Rattle.cc_tests_texts.specs.SearchExamples.{lamp_at_first, not_of}
use Rattle.cc_defs.specs.Sections.{HasNoEmpty}
use Rattle.cc_tests_texts.proofs.Deciding.{no_empty, reached}
use Rattle.cc_tests_texts.proofs.search_examples.sections_are_right.Goals as goal

none_is_empty : HasNoEmpty lamp_at_first.clauses
none_is_empty = no_empty lamp_at_first.clauses refl

pub returns : goal.returns
returns c = (
  record {
    clauses = lamp_at_first.clauses ++ [] ∷ [];
    right = (none_is_empty, ([], (reached lamp_at_first.clauses (4 ∷ 2 ∷ 5 ∷ []) [] refl, refl), refl));
    ends = ((λ e. (5, omega arith, refl)), (λ c. refl));
  },
  (λ word section.
      let reaches = section.right.1.1.0 in
      let same : Some (not_of 2 ∷ []) ≡ Some [] = reaches.1.1 ∙ ap (λ (clause : List Literal). Some clause) (sym reaches.2) in
      cc),
  (λ section. none_is_empty (subst (λ (clauses : List (List Literal)). Contains clauses []) section.right (section.ends.0 refl))),
  (λ section. section.right.1.1.0.1),
)
