-- A right section without blocks that ends with `empty` refutes its axioms.
use Rattle.std.proofs.Common.{◌≡◌, ℕ, suc, zero, ◌+◌, ◌-◌, ◌⊎◌, Bool, false, inl, inr, List, [], ◌∷◌, ◌++◌, Some, refl, sym, subst, arith}
use Rattle.std.specs.Prelude.{slice_get, IsTrue, Contains}
use Rattle.std.proofs.lemmas.Bool.{false≢true}
use Rattle.std.proofs.lemmas.List.Elements.{Contains-append_cases}
use Rattle.cc_clauses.specs.Laws.{ResolventsAreSound}
use Rattle.cc_clauses.specs.RowsOf.{MeetsAll}
use Rattle.cc_defs.specs.declared.log.EndWord.{EndWord}
use Rattle.cc_defs.specs.declared.log.EndWord.TheVariants as words
use Rattle.cc_defs.specs.declared.log.LogLine.{LogLine}
use Rattle.cc_defs.specs.declared.log.LogLine.TheVariants as lines
use Rattle.cc_defs.specs.Clauses.{Literal, IsNumbered, Reaches, ReachesFrom, meets}
use Rattle.cc_defs.specs.declared.log.Version.{Version}
use Rattle.cc_defs.specs.Sections.{Axioms, Right, IsEnded, IsFound, IsJudged}
use Rattle.cc_check.specs.Clauses.{reading_as}
use Rattle.cc_check.specs.Laws.{SilentSectionsHaveNoRows}

-- ---- members

in_none : {A : Type 0} (x : A) → Contains [] x → ⊥
in_none x (k, below, is) = omega arith

in_first : {A : Type 0} (x : A) (xs : List A) → Contains (x ∷ xs) x
in_first x xs = (zero, omega arith, refl)

in_rest : {A : Type 0} (y x : A) (xs : List A) → Contains xs x → Contains (y ∷ xs) x
in_rest y x xs (k, below, is) = (suc k, omega arith, is)

in_cases : {A : Type 0} (y x : A) (xs : List A) → Contains (y ∷ xs) x → (y ≡ x) ⊎ Contains xs x
in_cases y x xs (zero, below, is) = inl cc
in_cases y x xs (suc k, below, is) = inr (k, omega arith, is)

-- ---- what follows from clauses

numbered_in : (clauses : List (List Literal)) (number : ℕ) (clause : List Literal) → IsNumbered clauses number clause → Contains clauses clause
numbered_in clauses number clause (some, is) = get_in clauses (number - 1) clause is
  where
    get_in : (xs : List (List Literal)) (k : ℕ) (x : List Literal) → slice_get xs k ≡ Some x → Contains xs x
    get_in [] k x is = cc
    get_in (y ∷ xs) zero x is = let same : y ≡ x = cc in subst (λ (w : List Literal). Contains (y ∷ xs) w) same (in_first y xs)
    get_in (y ∷ xs) (suc k) x is = in_rest y x xs (get_in xs k x is)

module _ (sound : ResolventsAreSound) (assignment : ℕ → Bool) where
  met_from : (clauses : List (List Literal)) → MeetsAll assignment clauses → (from : List Literal) (chain : List ℕ) (clause : List Literal) →
      IsTrue (meets assignment from) → ReachesFrom clauses from chain clause → IsTrue (meets assignment clause)
  met_from clauses all from [] clause met is = subst (λ (w : List Literal). IsTrue (meets assignment w)) (sym is) met
  met_from clauses all from (pivot ∷ []) clause met is = absurd is
  met_from clauses all from (pivot ∷ number ∷ chain) clause met (other, next, numbered, resolvent, rest) =
      met_from clauses all next chain clause
      (sound from other pivot next resolvent assignment met (all other (numbered_in clauses number other numbered))) rest

  met_reached : (clauses : List (List Literal)) → MeetsAll assignment clauses → (chain : List ℕ) (clause : List Literal) → Reaches clauses chain clause →
      IsTrue (meets assignment clause)
  met_reached clauses all [] clause is = absurd is
  met_reached clauses all (number ∷ chain) clause (first, numbered, rest) =
      met_from clauses all first chain clause (all first (numbered_in clauses number first numbered)) rest

  met_more : (clauses : List (List Literal)) (clause : List Literal) → MeetsAll assignment clauses → IsTrue (meets assignment clause) →
      MeetsAll assignment (clauses ++ clause ∷ [])
  met_more clauses clause all met other there = elim (Contains-append_cases clauses (clause ∷ []) other there) [
    | inl before ↦ all other before
    | inr last ↦ elim (in_cases clause other [] last) [
      | inl same ↦ subst (λ (w : List Literal). IsTrue (meets assignment w)) same met
      | inr none ↦ absurd (in_none other none)
    ]
  ]

-- ---- the lines of a section

ended_so : (version : Version) (other : EndWord) (blocks line : ℕ) (texts : List (List ℕ)) (word : EndWord) (count last : ℕ) →
    IsEnded version other blocks line texts (Right word count last) → other ≡ word
ended_so version other blocks line [] word count last is = cc
ended_so version other blocks line (text ∷ texts) word count last (inl (none, is)) = absurd cc
ended_so version other blocks line (text ∷ texts) word count last (inr (read, is)) = absurd cc

module _ (sound : ResolventsAreSound) (version : Version) (axioms : Axioms) (assignment : ℕ → Bool) (count last : ℕ) where
  abbrev Ends : List (List Literal) → (blocks line : ℕ) → List (List ℕ) → Type 0
  Ends before blocks line texts = IsFound (reading_as version false) axioms before blocks line texts (Right words.Empty count last)

  -- a line, by what it says
  said : (before : List (List Literal)) (blocks line : ℕ) (texts : List (List ℕ)) → MeetsAll assignment before →
      ((after : List (List Literal)) (more : ℕ) → MeetsAll assignment after → Ends after more (line + 1) texts → ⊥) → (line_said : LogLine) →
      IsJudged (reading_as version false) axioms before blocks line (λ after more. Ends after more (line + 1) texts) texts (Right words.Empty count last) line_said → ⊥
  said before blocks line texts met none (lines.Section conditions horizon) is = cc
  said before blocks line texts met none (lines.End other) (inl (right, is)) =
      false≢true (met [] (right.0 (ended_so version other blocks line texts words.Empty count last is)))
  said before blocks line texts met none (lines.End other) (inr (wrong, is)) = cc
  said before blocks line texts met none (lines.Derived clause chain) (inl (there, is)) = cc
  said before blocks line texts met none (lines.Derived clause chain) (inr (inl (never, (reason, wrongly, is)))) = cc
  said before blocks line texts met none (lines.Derived clause chain) (inr (inr (never, is_clause, over, reached, goes))) =
      none (before ++ clause ∷ []) blocks (met_more sound assignment before clause met (met_reached sound assignment before met chain clause reached)) goes
  said before blocks line texts met none (lines.Block other) is = cc

  refuted : (before : List (List Literal)) (blocks line : ℕ) (texts : List (List ℕ)) → MeetsAll assignment before → Ends before blocks line texts → ⊥
  refuted before blocks line [] met is = cc
  refuted before blocks line (text ∷ texts) met (inl (none, is)) = cc
  refuted before blocks line (text ∷ texts) met (inr (read, spelled, is)) =
      said before blocks line texts met (λ after more all goes. refuted after more (line + 1) texts all goes) _ is

pub silent_sections_have_no_rows : ResolventsAreSound → SilentSectionsHaveNoRows
silent_sections_have_no_rows sound version axioms texts line blocks last found row is =
    refuted sound version axioms is.assignment blocks last axioms.clauses 0 line texts is.meets_all found
