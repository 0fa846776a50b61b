-- The steps of a section, one after another: what they add, and which assignments meet it.
use Rattle.std.proofs.Common.{◌≡◌, ◌∙◌, ℕ, ◌+◌, ◌-◌, inl, inr, zero, suc, Bool, List, [], ◌∷◌, ◌++◌, map, Some, refl, sym, subst, arith, append_assoc, append-nil}
use Rattle.std.specs.Prelude.{slice_get, IsTrue, Contains}
use Rattle.std.proofs.lemmas.List.Elements.{Contains-append_left, Contains-append_right, Contains-append_cases}
use Rattle.std.proofs.lemmas.Grind.{flat_map-append}
use Rattle.std.proofs.lemmas.Bool.{false≢true}
use Rattle.cc_clauses.specs.Laws.{DenialDenies, DenialLeavesOthers, ResolventsAreSound}
use Rattle.cc_clauses.specs.RowsOf.{MeetsAll, HasRow, IsRowOf}
use Rattle.cc_defs.specs.Clauses.{Literal, IsNumbered, ReachesFrom, Reaches, meets}
use Rattle.cc_defs.specs.Rows.{IsRow}
use Rattle.cc_defs.specs.Runs.{Step, Derive, Tell, AreFairSteps, IsFairLine, counted, counted_in, row_told}
use Rattle.cc_defs.specs.Sections.{HasNoEmpty, row_denial}
use Rattle.cc_lists.specs.Sections.{rows_in}
use Rattle.cc_lists.proofs.Members.{in_cases, in_first, in_none, in_rest}
use Rattle.cc_query.specs.Parts.{clause_added}

-- ---- one more step

pub fair_behind : (sizes : List ℕ) (before : List (List Literal)) (steps : List Step) (middle : List (List Literal)) (more : List Step) (after : List (List Literal)) →
    AreFairSteps sizes before steps middle → AreFairSteps sizes middle more after → AreFairSteps sizes before (steps ++ more) after
fair_behind sizes before [] middle more after is rest = subst (λ (w : List (List Literal)). AreFairSteps sizes w more after) is rest
fair_behind sizes before (Derive clause chain ∷ steps) middle more after (none, line, fair) rest =
    (none, line, fair_behind sizes (before ++ clause ∷ []) steps middle more after fair rest)
fair_behind sizes before (Tell row ∷ steps) middle more after (none, fair) rest =
    (none, fair_behind sizes (before ++ row_denial sizes row ∷ []) steps middle more after fair rest)

pub fair_line : (sizes : List ℕ) (before : List (List Literal)) (steps : List Step) (after : List (List Literal)) (clause : List Literal) (chain : List ℕ) →
    AreFairSteps sizes before steps after → HasNoEmpty after → IsFairLine after clause chain →
    AreFairSteps sizes before (steps ++ Derive clause chain ∷ []) (after ++ clause ∷ [])
fair_line sizes before steps after clause chain fair none line =
    fair_behind sizes before steps after (Derive clause chain ∷ []) (after ++ clause ∷ []) fair (none, line, refl)

pub fair_tell : (sizes : List ℕ) (before : List (List Literal)) (steps : List Step) (after : List (List Literal)) (row : List ℕ) →
    AreFairSteps sizes before steps after → HasNoEmpty after → AreFairSteps sizes before (steps ++ Tell row ∷ []) (after ++ row_denial sizes row ∷ [])
fair_tell sizes before steps after row fair none =
    fair_behind sizes before steps after (Tell row ∷ []) (after ++ row_denial sizes row ∷ []) fair (none, refl)

pub added_behind : (sizes : List ℕ) (before : List (List Literal)) (steps : List Step) (after : List (List Literal)) →
    AreFairSteps sizes before steps after → after ≡ before ++ map (clause_added sizes) steps
added_behind sizes before [] after is = is ∙ sym (append-nil before)
added_behind sizes before (Derive clause chain ∷ steps) after (none, line, fair) =
    added_behind sizes (before ++ clause ∷ []) steps after fair ∙ append_assoc before (clause ∷ []) (map (clause_added sizes) steps)
added_behind sizes before (Tell row ∷ steps) after (none, fair) =
    added_behind sizes (before ++ row_denial sizes row ∷ []) steps after fair ∙ append_assoc before (row_denial sizes row ∷ []) (map (clause_added sizes) steps)

pub counted_more : (steps : List Step) (step : Step) → counted_in (steps ++ step ∷ []) ≡ counted_in steps + counted step
counted_more [] step = omega arith
counted_more (first ∷ steps) step = let rest = counted_more steps step in omega arith

pub rows_more : (steps : List Step) (row : List ℕ) → rows_in (steps ++ Tell row ∷ []) ≡ rows_in steps ++ row ∷ []
rows_more steps row = flat_map-append row_told steps (Tell row ∷ [])

pub rows_kept : (steps : List Step) (clause : List Literal) (chain : List ℕ) → rows_in (steps ++ Derive clause chain ∷ []) ≡ rows_in steps
rows_kept steps clause chain = flat_map-append row_told steps (Derive clause chain ∷ []) ∙ append-nil (rows_in steps)

-- ---- what follows from clauses

numbered_in : (clauses : List (List Literal)) (number : ℕ) (clause : List Literal) → IsNumbered clauses number clause → Contains clauses clause
numbered_in clauses number clause (some, is) = get_in clauses (number - 1) clause is
  where
    get_in : (xs : List (List Literal)) (k : ℕ) (x : List Literal) → slice_get xs k ≡ Some x → Contains xs x
    get_in [] k x is = cc
    get_in (y ∷ xs) zero x is = let same : y ≡ x = cc in subst (λ (w : List Literal). Contains (y ∷ xs) w) same (in_first y xs)
    get_in (y ∷ xs) (suc k) x is = in_rest y x xs (get_in xs k x is)

module _ (sound : ResolventsAreSound) (assignment : ℕ → Bool) where
  met_from : (clauses : List (List Literal)) → MeetsAll assignment clauses → (from : List Literal) (chain : List ℕ) (clause : List Literal) →
      IsTrue (meets assignment from) → ReachesFrom clauses from chain clause → IsTrue (meets assignment clause)
  met_from clauses all from [] clause met is = subst (λ (w : List Literal). IsTrue (meets assignment w)) (sym is) met
  met_from clauses all from (pivot ∷ []) clause met is = absurd is
  met_from clauses all from (pivot ∷ number ∷ chain) clause met (other, next, numbered, resolvent, rest) =
      met_from clauses all next chain clause
      (sound from other pivot next resolvent assignment met (all other (numbered_in clauses number other numbered))) rest

  met_reached : (clauses : List (List Literal)) → MeetsAll assignment clauses → (chain : List ℕ) (clause : List Literal) → Reaches clauses chain clause →
      IsTrue (meets assignment clause)
  met_reached clauses all [] clause is = absurd is
  met_reached clauses all (number ∷ chain) clause (first, numbered, rest) =
      met_from clauses all first chain clause (all first (numbered_in clauses number first numbered)) rest

  met_more : (clauses : List (List Literal)) (clause : List Literal) → MeetsAll assignment clauses → IsTrue (meets assignment clause) →
      MeetsAll assignment (clauses ++ clause ∷ [])
  met_more clauses clause all met other there = elim (Contains-append_cases clauses (clause ∷ []) other there) [
    | inl before ↦ all other before
    | inr last ↦ elim (in_cases clause other [] last) [
      | inl same ↦ subst (λ (w : List Literal). IsTrue (meets assignment w)) same met
      | inr none ↦ absurd (in_none other none)
    ]
  ]

-- ---- which rows are left

-- an assignment with a row that no step tells meets what the steps add
pub met_behind : (sound : ResolventsAreSound) (leaves : DenialLeavesOthers) (sizes : List ℕ) (assignment : ℕ → Bool) (other : List ℕ) → IsRow sizes other →
    HasRow sizes assignment other → (before : List (List Literal)) (steps : List Step) (after : List (List Literal)) →
    ((row : List ℕ) → Contains (rows_in steps) row → IsRow sizes row) → (Contains (rows_in steps) other → ⊥) →
    AreFairSteps sizes before steps after → MeetsAll assignment before → MeetsAll assignment after
met_behind sound leaves sizes assignment other is has before [] after told apart fair met =
    subst (λ (w : List (List Literal)). MeetsAll assignment w) (sym fair) met
met_behind sound leaves sizes assignment other is has before (Derive clause chain ∷ steps) after told apart (none, line, fair) met =
    met_behind sound leaves sizes assignment other is has (before ++ clause ∷ []) steps after told apart fair
    (met_more sound assignment before clause met (met_reached sound assignment before met chain clause line.reached))
met_behind sound leaves sizes assignment other is has before (Tell row ∷ steps) after told apart (none, fair) met =
    met_behind sound leaves sizes assignment other is has (before ++ row_denial sizes row ∷ []) steps after
    (λ r there. told r (in_rest row r (rows_in steps) there)) (λ there. apart (in_rest row other (rows_in steps) there)) fair
    (met_more sound assignment before (row_denial sizes row) met
    (leaves sizes row other assignment (told row (in_first row (rows_in steps))) is
    (λ same. apart (subst (λ (w : List ℕ). Contains (row ∷ rows_in steps) w) (sym same) (in_first row (rows_in steps)))) has))

pub there_behind : (sizes : List ℕ) (before : List (List Literal)) (steps : List Step) (after : List (List Literal)) (clause : List Literal) →
    AreFairSteps sizes before steps after → Contains before clause → Contains after clause
there_behind sizes before steps after clause fair there =
    subst (λ (w : List (List Literal)). Contains w clause) (sym (added_behind sizes before steps after fair))
    (Contains-append_left before (map (clause_added sizes) steps) clause there)

-- the clause that denies a row that was told is there
pub denial_behind : (sizes : List ℕ) (before : List (List Literal)) (steps : List Step) (after : List (List Literal)) (row : List ℕ) →
    AreFairSteps sizes before steps after → Contains (rows_in steps) row → Contains after (row_denial sizes row)
denial_behind sizes before [] after row fair there = absurd (in_none row there)
denial_behind sizes before (Derive clause chain ∷ steps) after row (none, line, fair) there =
    denial_behind sizes (before ++ clause ∷ []) steps after row fair there
denial_behind sizes before (Tell first ∷ steps) after row (none, fair) there = elim (in_cases first row (rows_in steps) there) [
  | inr later ↦ denial_behind sizes (before ++ row_denial sizes first ∷ []) steps after row fair later
  | inl same ↦ there_behind sizes (before ++ row_denial sizes first ∷ []) steps after (row_denial sizes row) fair
      (subst (λ (w : List ℕ). Contains (before ++ row_denial sizes first ∷ []) (row_denial sizes w)) same
      (Contains-append_right before (row_denial sizes first ∷ []) (row_denial sizes first) (in_first (row_denial sizes first) [])))
]

-- The rows of the clauses behind steps are those of the clauses before them that no step tells.
pub row_before : (sizes : List ℕ) (before : List (List Literal)) (steps : List Step) (after : List (List Literal)) (row : List ℕ) →
    AreFairSteps sizes before steps after → IsRowOf sizes after row → IsRowOf sizes before row
row_before sizes before steps after row fair is =
    record { is_row = is.is_row; assignment = is.assignment; has = is.has; meets_all = λ clause there. is.meets_all clause (there_behind sizes before steps after clause fair there) }

pub row_not_told : (denies : DenialDenies) (sizes : List ℕ) (before : List (List Literal)) (steps : List Step) (after : List (List Literal)) (row : List ℕ) →
    AreFairSteps sizes before steps after → IsRowOf sizes after row → Contains (rows_in steps) row → ⊥
row_not_told denies sizes before steps after row fair is there =
    let met = is.meets_all (row_denial sizes row) (denial_behind sizes before steps after row fair there) in
    let unmet = denies sizes row is.assignment is.is_row is.has in
    false≢true (sym unmet ∙ met)

pub row_behind : (sound : ResolventsAreSound) (leaves : DenialLeavesOthers) (sizes : List ℕ) (before : List (List Literal)) (steps : List Step)
    (after : List (List Literal)) (row : List ℕ) → AreFairSteps sizes before steps after → ((told : List ℕ) → Contains (rows_in steps) told → IsRow sizes told) →
    (Contains (rows_in steps) row → ⊥) → IsRowOf sizes before row → IsRowOf sizes after row
row_behind sound leaves sizes before steps after row fair told apart is =
    record {
      is_row = is.is_row;
      assignment = is.assignment;
      has = is.has;
      meets_all = met_behind sound leaves sizes is.assignment row is.is_row is.has
          before steps after told apart fair is.meets_all;
    }

pub none_empty : (sizes : List ℕ) (clauses : List (List Literal)) (row : List ℕ) → IsRowOf sizes clauses row → HasNoEmpty clauses
none_empty sizes clauses row is there = false≢true (is.meets_all [] there)
