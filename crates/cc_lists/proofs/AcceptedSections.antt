-- The sections of a fair run are found right.
use Rattle.std.proofs.Common.{◌≡◌, ℕ, ◌+◌, ◌-◌, ◌<◌, ◌≤◌, inl, inr, zero, suc, true, List, [], ◌∷◌, ◌++◌, map, Some, refl, sym, subst, arith}
use Rattle.std.specs.Prelude.{Contains, slice_get}
use Rattle.std.specs.List.{AllByRecursion, sum}
use Rattle.cc_defs.specs.declared.log.EndWord.{EndWord}
use Rattle.cc_defs.specs.declared.log.LogLine.{LogLine}
use Rattle.cc_defs.specs.declared.log.LogLine.TheVariants as lines
use Rattle.cc_defs.specs.Clauses.{Literal, IsClause, IsOver, IsResolvent, ReachesFrom, Reaches}
use Rattle.cc_defs.specs.declared.log.Version.TheVariants.{First}
use Rattle.cc_defs.specs.LogTexts.{IsFormed, line_text}
use Rattle.cc_defs.specs.Rows.{IsRow}
use Rattle.cc_defs.specs.Runs.{Step, Derive, Tell, AreFairSteps}
use Rattle.cc_defs.specs.Sections.{Axioms, Reading, Right, EndsRightly, IsFound, row_denial}
use Rattle.cc_clauses.proofs.Denials.{denial_is_clause, denial_over as any_denial_over}
use Rattle.cc_lists.specs.Sections.{rows_in, step_line}
use Rattle.cc_lists.specs.Subjects.{AreGoodAxioms}
use Rattle.cc_lists.proofs.AcceptedLines.{IsWithin, read_back}
use Rattle.cc_lists.proofs.Members.{all_append, in_cases, in_first, in_none, in_rest}

-- ---- what chains reach

all_at : (P : List Literal → Type 0) (clauses : List (List Literal)) (index : ℕ) (clause : List Literal) → AllByRecursion P clauses → slice_get clauses index ≡ Some clause → P clause
all_at P [] index clause all is = absurd cc
all_at P (first ∷ clauses) zero clause all is = let same : first ≡ clause = cc in subst P same all.0
all_at P (first ∷ clauses) (suc index) clause all is = all_at P clauses index clause all.1 is

module _ (P : List Literal → Type 0) (resolved : (a b : List Literal) (pivot : ℕ) (r : List Literal) → P a → P b → IsResolvent a b pivot r → P r)
    (clauses : List (List Literal)) (all : AllByRecursion P clauses) where
  reached_from : (from : List Literal) (chain : List ℕ) (clause : List Literal) → P from → ReachesFrom clauses from chain clause → P clause
  reached_from from [] clause good is = subst P (sym is) good
  reached_from from (pivot ∷ []) clause good is = absurd is
  reached_from from (pivot ∷ number ∷ chain) clause good (other, next, numbered, resolvent, rest) =
      reached_from next chain clause (resolved from other pivot next good (all_at P clauses (number - 1) other all numbered.1) resolvent) rest

  -- what resolvents keep is true of what a chain reaches
  pub reached : (chain : List ℕ) (clause : List Literal) → Reaches clauses chain clause → P clause
  reached [] clause is = absurd is
  reached (number ∷ chain) clause (first, numbered, rest) = reached_from first chain clause (all_at P clauses (number - 1) first all numbered.1) rest

-- ---- clauses over variables

over_at : (variables : ℕ) (clause : List Literal) (literal : Literal) → IsOver variables clause → Contains clause literal →
    (0 < literal.variable) × (literal.variable ≤ variables)
over_at variables [] literal over there = absurd (in_none literal there)
over_at variables (first ∷ clause) literal over there = elim (in_cases first literal clause there) [
  | inl same ↦ subst (λ (z : Literal). (0 < z.variable) × (z.variable ≤ variables)) same (over.0, over.1)
  | inr later ↦ over_at variables clause literal over.2 later
]

over_from : (variables : ℕ) (clause : List Literal) → ((literal : Literal) → Contains clause literal → (0 < literal.variable) × (literal.variable ≤ variables)) →
    IsOver variables clause
over_from variables [] each = tt
over_from variables (first ∷ clause) each =
    let here = each first (in_first first clause) in
    (here.0, here.1, over_from variables clause (λ literal there. each literal (in_rest first literal clause there)))

pub over_resolved : (variables : ℕ) (a b : List Literal) (pivot : ℕ) (r : List Literal) → IsOver variables a → IsOver variables b → IsResolvent a b pivot r → IsOver variables r
over_resolved variables a b pivot r over_a over_b is = over_from variables r
    (λ literal there. elim ((is.members literal).0 there).0 [
      | inl of_a ↦ over_at variables a literal over_a of_a
      | inr of_b ↦ over_at variables b literal over_b of_b
    ])

-- ---- the denial of a row

pub denial_over : (variables : ℕ) (sizes row : List ℕ) → sum sizes ≤ variables → IsRow sizes row → IsOver variables (row_denial sizes row)
denial_over variables sizes row most is = any_denial_over variables 1 sizes row (omega arith) (omega arith) is

-- ---- right sections

abbrev pub IsGoodClause : ℕ → List Literal → Type 0
IsGoodClause variables clause = IsClause clause × IsOver variables clause

pub good_resolved : (variables : ℕ) (a b : List Literal) (pivot : ℕ) (r : List Literal) → IsGoodClause variables a → IsGoodClause variables b → IsResolvent a b pivot r →
    IsGoodClause variables r
good_resolved variables a b pivot r good_a good_b is = (is.clause, over_resolved variables a b pivot r good_a.1 good_b.1 is)

pub good_both : (variables : ℕ) (clauses : List (List Literal)) → AllByRecursion IsClause clauses → AllByRecursion (IsOver variables) clauses →
    AllByRecursion (IsGoodClause variables) clauses
good_both variables [] all over = tt
good_both variables (clause ∷ clauses) all over = ((all.0, over.0), good_both variables clauses all.1 over.1)

-- what stands behind a section's heading
abbrev pub inner_lines : List Step → EndWord → List LogLine
inner_lines steps word = map step_line steps ++ lines.End word ∷ []

-- lines of the first version, with blocks
abbrev plainly : Reading
plainly = record { version = First; blocks = true }

-- with this end word, at some line
abbrev IsFoundRight : Axioms → List (List Literal) → (blocks line : ℕ) → List (List ℕ) → EndWord → Type 0
IsFoundRight axioms before blocks line texts word = (count : ℕ) × (last : ℕ) × IsFound plainly axioms before blocks line texts (Right word count last)

found_right : (axioms : Axioms) → sum axioms.sizes ≤ axioms.variables → (word : EndWord) (steps : List Step) (before after : List (List Literal)) (blocks line : ℕ) →
    AllByRecursion (IsGoodClause axioms.variables) before → AllByRecursion (IsRow axioms.sizes) (rows_in steps) → AreFairSteps axioms.sizes before steps after →
    AllByRecursion IsFormed (inner_lines steps word) → EndsRightly after word → IsFoundRight axioms before blocks line (map line_text (inner_lines steps word)) word
found_right axioms most word [] before after blocks line good rows fair formed ends = (
  blocks,
  line,
  inr (lines.End word, read_back (lines.End word) formed.0, inl (subst (λ (w : List (List Literal)). EndsRightly w word) fair ends, refl)),
)
found_right axioms most word (Derive clause chain ∷ steps) before after blocks line good rows (none, fair_line, fair) formed ends =
    let is_good = reached (IsGoodClause axioms.variables) (good_resolved axioms.variables) before good chain clause fair_line.reached in
    let (count, last, found) = found_right axioms most word steps (before ++ clause ∷ []) after blocks (line + 1)
    (all_append (IsGoodClause axioms.variables) before (clause ∷ []) good (is_good, tt)) rows fair formed.1 ends in (
      count,
      last,
      inr (lines.Derived clause chain, read_back (lines.Derived clause chain) formed.0, inr (inr (none, is_good.0, is_good.1, fair_line.reached, found))),
    )
found_right axioms most word (Tell row ∷ steps) before after blocks line good rows (none, fair) formed ends =
    let is_good : IsGoodClause axioms.variables (row_denial axioms.sizes row) =
    (denial_is_clause 1 axioms.sizes row rows.0, denial_over axioms.variables axioms.sizes row most rows.0) in
    let (count, last, found) = found_right axioms most word steps (before ++ row_denial axioms.sizes row ∷ []) after (blocks + 1) (line + 1)
    (all_append (IsGoodClause axioms.variables) before (row_denial axioms.sizes row ∷ []) good (is_good, tt)) rows.1 fair formed.1 ends in (
      count,
      last,
      inr (lines.Block row, read_back (lines.Block row) formed.0, inr (inr (none, rows.0, found))),
    )

all_within : (word : EndWord) (steps : List Step) → AllByRecursion IsWithin (inner_lines steps word)
all_within word [] = (tt, tt)
all_within word (Derive clause chain ∷ steps) = (tt, all_within word steps)
all_within word (Tell row ∷ steps) = (tt, all_within word steps)

-- Lines that stand behind a heading: a checker finds them right, with this end word.
pub record IsWritten (axioms : Axioms) (inside : List LogLine) (word : EndWord) : Type 0 where
  pub within : AllByRecursion IsWithin inside
  pub found : (line : ℕ) → IsFoundRight axioms axioms.clauses 0 line (map line_text inside) word

pub written : (axioms : Axioms) (word : EndWord) (steps : List Step) (after : List (List Literal)) → AreGoodAxioms axioms → AllByRecursion (IsRow axioms.sizes) (rows_in steps) →
    AreFairSteps axioms.sizes axioms.clauses steps after → AllByRecursion IsFormed (inner_lines steps word) → EndsRightly after word →
    IsWritten axioms (inner_lines steps word) word
written axioms word steps after good rows fair formed ends = record {
  within = all_within word steps;
  found = λ line. found_right axioms good.positions word steps axioms.clauses after 0 line (good_both axioms.variables axioms.clauses good.clauses good.over) rows fair formed ends;
}
