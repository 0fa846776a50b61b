-- A section with an empty clause blocks each row of its axioms.
use Rattle.std.proofs.Common.{◌≡◌, ◌≢◌, ◌∙◌, ℕ, ◌+◌, ◌-◌, ◌⊎◌, Bool, true, false, inl, inr, zero, suc, List, [], ◌∷◌, ◌++◌, length, Some, Option, refl, sym, subst, ap, arith}
use Rattle.std.specs.Prelude.{slice_get, IsTrue, Contains}
use Rattle.std.specs.Bool.{Decides}
use Rattle.std.proofs.lemmas.Bool.{false≢true}
use Rattle.std.proofs.lemmas.List.Elements.{Contains-append_cases}
use Rattle.std.proofs.lemmas.Slice.Eq.{bytes_eq-Decides}
use Rattle.std.specs.Str.{bytes_eq}
use Rattle.cc_clauses.specs.Laws.{DenialLeavesOthers, ResolventsAreSound}
use Rattle.cc_clauses.specs.RowsOf.{HasRow, IsRowOf, MeetsAll}
use Rattle.cc_defs.specs.declared.log.EndWord.{EndWord}
use Rattle.cc_defs.specs.declared.log.EndWord.TheVariants as words
use Rattle.cc_defs.specs.declared.log.LogLine.{LogLine}
use Rattle.cc_defs.specs.declared.log.LogLine.TheVariants as lines
use Rattle.cc_defs.specs.declared.log.Version.{Version}
use Rattle.cc_defs.specs.declared.log.Version.TheVariants.{First, Second}
use Rattle.cc_defs.specs.Clauses.{Literal, IsNumbered, Reaches, ReachesFrom, meets}
use Rattle.cc_defs.specs.Description.{Description}
use Rattle.cc_defs.specs.Histories.{IsHistory}
use Rattle.cc_check.specs.Clauses.{reading_as}
use Rattle.cc_defs.specs.LogBytes.{IsSpelled, line_meant}
use Rattle.cc_defs.specs.Resolved.{Query}
use Rattle.cc_defs.specs.Rows.{IsRow}
use Rattle.cc_defs.specs.Sections.{Axioms, Right, IsFound, IsJudged, row_denial}
use Rattle.cc_form.specs.Forms.{TellsHistories, asked}
use Rattle.cc_judge.proofs.Counting.{ended}

-- ---- members

in_none : {A : Type 0} (x : A) → Contains [] x → ⊥
in_none x (k, below, is) = omega arith

in_first : {A : Type 0} (x : A) (xs : List A) → Contains (x ∷ xs) x
in_first x xs = (zero, omega arith, refl)

in_rest : {A : Type 0} (y x : A) (xs : List A) → Contains xs x → Contains (y ∷ xs) x
in_rest y x xs (k, below, is) = (suc k, omega arith, is)

in_cases : {A : Type 0} (y x : A) (xs : List A) → Contains (y ∷ xs) x → (y ≡ x) ⊎ Contains xs x
in_cases y x xs (zero, below, is) = inl cc
in_cases y x xs (suc k, below, is) = inr (k, omega arith, is)

decided : {P : Type 0} (b : Bool) → Decides b P → P ⊎ (P → ⊥)
decided true is = inl (is.0 refl)
decided false is = inr (λ p. false≢true (is.1 p))

same_or_other : (row other : List ℕ) → (row ≡ other) ⊎ (row ≢ other)
same_or_other row other = decided (bytes_eq row other) (bytes_eq-Decides row other)

-- ---- what follows from clauses

numbered_in : (clauses : List (List Literal)) (number : ℕ) (clause : List Literal) → IsNumbered clauses number clause → Contains clauses clause
numbered_in clauses number clause (some, is) = get_in clauses (number - 1) clause is
  where
    get_in : (xs : List (List Literal)) (k : ℕ) (x : List Literal) → slice_get xs k ≡ Some x → Contains xs x
    get_in [] k x is = cc
    get_in (y ∷ xs) zero x is = let same : y ≡ x = cc in subst (λ (w : List Literal). Contains (y ∷ xs) w) same (in_first y xs)
    get_in (y ∷ xs) (suc k) x is = in_rest y x xs (get_in xs k x is)

module _ (sound : ResolventsAreSound) (assignment : ℕ → Bool) where
  met_from : (clauses : List (List Literal)) → MeetsAll assignment clauses → (from : List Literal) (chain : List ℕ) (clause : List Literal) →
      IsTrue (meets assignment from) → ReachesFrom clauses from chain clause → IsTrue (meets assignment clause)
  met_from clauses all from [] clause met is = subst (λ (w : List Literal). IsTrue (meets assignment w)) (sym is) met
  met_from clauses all from (pivot ∷ []) clause met is = absurd is
  met_from clauses all from (pivot ∷ number ∷ chain) clause met (other, next, numbered, resolvent, rest) =
      met_from clauses all next chain clause
      (sound from other pivot next resolvent assignment met (all other (numbered_in clauses number other numbered))) rest

  met_reached : (clauses : List (List Literal)) → MeetsAll assignment clauses → (chain : List ℕ) (clause : List Literal) → Reaches clauses chain clause →
      IsTrue (meets assignment clause)
  met_reached clauses all [] clause is = absurd is
  met_reached clauses all (number ∷ chain) clause (first, numbered, rest) =
      met_from clauses all first chain clause (all first (numbered_in clauses number first numbered)) rest

  met_more : (clauses : List (List Literal)) (clause : List Literal) → MeetsAll assignment clauses → IsTrue (meets assignment clause) →
      MeetsAll assignment (clauses ++ clause ∷ [])
  met_more clauses clause all met other there = elim (Contains-append_cases clauses (clause ∷ []) other there) [
    | inl before ↦ all other before
    | inr last ↦ elim (in_cases clause other [] last) [
      | inl same ↦ subst (λ (w : List Literal). IsTrue (meets assignment w)) same met
      | inr none ↦ absurd (in_none other none)
    ]
  ]

-- ---- which rows a section blocks

-- an entry that says a block is one
meant_block : (version : Version) (own : ℕ) (read : LogLine) (row : List ℕ) → line_meant version own read ≡ lines.Block row → read ≡ lines.Block row
meant_block First own read row is = is
meant_block Second own (lines.Section conditions horizon) row is = absurd cc
meant_block Second own (lines.Derived clause chain) row is = absurd cc
meant_block Second own (lines.Block other) row is = is
meant_block Second own (lines.End word) row is = absurd cc

-- one of the texts is that of a line
abbrev IsAmong : Version → List (List ℕ) → LogLine → Type 0
IsAmong version texts line = (text : List ℕ) × Contains texts text × IsSpelled version text line

among_more : (version : Version) (text : List ℕ) (texts : List (List ℕ)) (line : LogLine) → IsAmong version texts line → IsAmong version (text ∷ texts) line
among_more version text texts line (other, there, is) = (other, in_rest text other texts there, is)

module _ (sound : ResolventsAreSound) (leaves : DenialLeavesOthers) (version : Version) (axioms : Axioms) (assignment : ℕ → Bool) (row : List ℕ)
    (is_row : IsRow axioms.sizes row) (has : HasRow axioms.sizes assignment row) (word : EndWord) (count end_line : ℕ) (empty : word ≡ words.Empty) where
  abbrev Blocks : List (List ℕ) → Type 0
  Blocks texts = IsAmong version texts (lines.Block row)

  module _ (before : List (List Literal)) (blocks line : ℕ) (text : List ℕ) (texts : List (List ℕ)) (met : MeetsAll assignment before) (Goes : List (List Literal) → ℕ → Type 0)
      (next : (after : List (List Literal)) (more : ℕ) → MeetsAll assignment after → Goes after more → Blocks texts) where
    line_blocked : (said : LogLine) → (said ≡ lines.Block row → IsSpelled version text (lines.Block row)) →
        IsJudged (reading_as version true) axioms before blocks line Goes texts (Right word count end_line) said → Blocks (text ∷ texts)
    line_blocked (lines.Section conditions horizon) here is = absurd cc
    line_blocked (lines.End other) here (inl (right, is)) =
        let same = ended version other blocks line texts word count end_line is in
        absurd (false≢true (met [] (right.0 (sym same.0 ∙ empty))))
    line_blocked (lines.End other) here (inr (wrong, is)) = absurd cc
    line_blocked (lines.Derived clause chain) here (inl (there, is)) = absurd cc
    line_blocked (lines.Derived clause chain) here (inr (inl (none, (reason, wrongly, is)))) = absurd cc
    line_blocked (lines.Derived clause chain) here (inr (inr (none, is_clause, over, reached, goes))) =
        among_more version text texts (lines.Block row)
        (next (before ++ clause ∷ []) blocks (met_more sound assignment before clause met (met_reached sound assignment before met chain clause reached)) goes)
    line_blocked (lines.Block other) here (inl (there, is)) = absurd cc
    line_blocked (lines.Block other) here (inr (inl (none, wrong, is))) = absurd cc
    line_blocked (lines.Block other) here (inr (inr (none, other_is, goes))) = elim (same_or_other row other) [
      | inl same ↦ (text, in_first text texts, here (ap (λ (r : List ℕ). lines.Block r) (sym same)))
      | inr apart ↦ among_more version text texts (lines.Block row)
          (next (before ++ row_denial axioms.sizes other ∷ []) (blocks + 1)
          (met_more sound assignment before (row_denial axioms.sizes other) met (leaves axioms.sizes other row assignment other_is is_row apart has)) goes)
    ]

  blocked : (before : List (List Literal)) (blocks line : ℕ) (texts : List (List ℕ)) → MeetsAll assignment before →
      IsFound (reading_as version true) axioms before blocks line texts (Right word count end_line) → Blocks texts
  blocked before blocks line [] met is = absurd cc
  blocked before blocks line (text ∷ texts) met (inl (none, is)) = absurd cc
  blocked before blocks line (text ∷ texts) met (inr (read, is, judged)) =
      line_blocked before blocks line text texts met (λ after more. IsFound (reading_as version true) axioms after more (line + 1) texts (Right word count end_line))
      (λ after more all goes. blocked after more (line + 1) texts all goes) (line_meant version (length before + 1) read)
      (λ said. subst (IsSpelled version text) (meant_block version (length before + 1) read row said) is) judged

-- ---- the rows of its axioms

pub row_blocked : (sound : ResolventsAreSound) (leaves : DenialLeavesOthers) (axioms : Axioms) (version : Version) (line : ℕ) (texts : List (List ℕ)) (word : EndWord) (count end_line : ℕ) →
    IsFound (reading_as version true) axioms axioms.clauses 0 line texts (Right word count end_line) → word ≡ words.Empty → (row : List ℕ) → IsRowOf axioms.sizes axioms.clauses row →
    (text : List ℕ) × Contains texts text × IsSpelled version text (lines.Block row)
row_blocked sound leaves axioms version line texts word count end_line found empty row one =
    blocked sound leaves version axioms one.assignment row one.is_row one.has word count end_line empty axioms.clauses 0 line texts one.meets_all found

-- ---- the histories of its horizon

-- a history of a query is one of its conditions
of_asked : (d : Description) (q : Query) (with_claim : Bool) (horizon : ℕ) (key : Option (List ℕ)) (row : List ℕ) → IsHistory d q horizon key row →
    IsHistory d (asked with_claim q) horizon key row
of_asked d q true horizon key row is = is
of_asked d q false horizon key row is = record { path = is.path; meets = record { conditions = is.meets.conditions; claim = tt }; after = is.after }

pub history_row : (d : Description) (q : Query) (with_claim : Bool) (horizon : ℕ) (key : Option (List ℕ)) (axioms : Axioms) → TellsHistories d (asked with_claim q) horizon key axioms →
    (row : List ℕ) → IsHistory d q horizon key row → IsRowOf axioms.sizes axioms.clauses row
history_row d q with_claim horizon key axioms tells row is = (tells.rows row).1 (of_asked d q with_claim horizon key row is)
