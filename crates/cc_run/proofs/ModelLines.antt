-- The lines of a section can be written in version 2, and its rows are rows of its positions.
use Rattle.std.proofs.Common.{◌≡◌, refl, sym, ap, subst, ℕ, zero, suc, ◌+◌, ◌≤◌, List, [], ◌∷◌, ◌++◌, length, Option, Some, None, arith, length-append}
use Rattle.std.specs.Prelude.{Contains, flat_map, sum}
use Rattle.std.specs.List.{AllByRecursion}
use Rattle.std.proofs.lemmas.Grind.{flat_map-append}
use Rattle.std.proofs.lemmas.List.Elements.{Contains-push}
use Rattle.cc_log.specs.Entries.{AreBefore}
use Rattle.cc_defs.specs.declared.log.LogLine.TheVariants as lines
use Rattle.cc_defs.specs.Clauses.{Literal}
use Rattle.cc_defs.specs.Rows.{IsRow}
use Rattle.cc_defs.specs.Runs.{AreFairSteps, Derive, Section, Step, Tell, denied_rows, optional, row_told, rows_of}
use Rattle.cc_defs.specs.Sections.{Axioms, row_denial}
use Rattle.cc_lists.specs.Sections.{open_section, section_of}
use Rattle.cc_run.specs.ModelsTold.{AreWithin}
use Rattle.cc_search.specs.Searches.{SearchView, Stands}
use Rattle.cc_tell.specs.Tellers.{IsWritable}
use Rattle.cc_list.proofs.GoodClauses.{IsGood, all_good, chain_good, clause_few, denial_good, in_first, in_rest}
use Rattle.cc_list.proofs.NumberedSteps.{steps_few, told_count}
use Rattle.cc_list.proofs.Worth.{all_both, all_front}

-- ---- rows

all_from : (P : List ℕ → Type 0) (rows : List (List ℕ)) → ((row : List ℕ) → Contains rows row → P row) → AllByRecursion P rows
all_from P [] each = tt
all_from P (row ∷ rows) each = (each row (in_first row rows), all_from P rows (λ r there. each r (in_rest row r rows there)))

-- those that steps tell are among all rows
in_front : (front more : List (List ℕ)) (row : List ℕ) → Contains front row → Contains (front ++ more) row
in_front [] more row there = let low = there.1 in absurd (omega arith)
in_front (first ∷ front) more row (zero, below, is) = (zero, omega arith, is)
in_front (first ∷ front) more row (suc k, below, is) = in_rest first row (front ++ more) (in_front front more row (k, omega arith, is))

module _ (axioms : Axioms) (count : Option ℕ) (budget : ℕ) (section : Section) (search : SearchView) (stands : Stands axioms count budget search section) where
  row_in : (row : List ℕ) → Contains (rows_of section) row → IsRow axioms.sizes row
  row_in row there = (stands.tells.first.each row there).is_row

  denied_in : AllByRecursion (IsRow axioms.sizes) (denied_rows section)
  denied_in = all_from (IsRow axioms.sizes) (denied_rows section) (λ row there. row_in row (in_front (denied_rows section) _ row there))

-- the model that was told last has a value for each position
row_length : (sizes row : List ℕ) → IsRow sizes row → length row ≡ length sizes
row_length [] [] is = refl
row_length [] (value ∷ row) is = absurd is
row_length (size ∷ sizes) [] is = absurd is
row_length (size ∷ sizes) (value ∷ row) is = ap suc (row_length sizes row is.1)

pub row_short : (axioms : Axioms) (count : Option ℕ) (budget : ℕ) (steps : List Step) (row : List ℕ) (search : SearchView) → AreWithin axioms budget →
    Stands axioms count budget search (section_of steps (Some row) None) → length row ≤ 1000000
row_short axioms count budget steps row search within stands =
    let same = row_length axioms.sizes row (row_in axioms count budget (section_of steps (Some row) None) search stands row (Contains-push (flat_map row_told steps) row)) in
    let short = within.short in omega arith

-- ---- lines

counted_told : (steps : List Step) → told_count steps ≡ length (flat_map row_told steps)
counted_told [] = refl
counted_told (Derive clause chain ∷ steps) = counted_told steps
counted_told (Tell row ∷ steps) = let rest = counted_told steps in omega arith

-- what stands before the last step
record Before (variables : ℕ) (sizes : List ℕ) (clauses : List (List Literal)) (steps : List Step) (step : Step) (after : List (List Literal)) : Type 0 where
  pub before : List (List Literal)
  pub long : length before ≡ length clauses + length steps
  pub good : AllByRecursion (IsGood variables) before
  pub last : AreFairSteps sizes before (step ∷ []) after

module _ (variables : ℕ) (sizes : List ℕ) (positions : sum sizes ≤ variables) where
  before_last : (clauses : List (List Literal)) (steps : List Step) (step : Step) (after : List (List Literal)) → AllByRecursion (IsGood variables) clauses →
      AllByRecursion (IsRow sizes) (flat_map row_told steps) → AreFairSteps sizes clauses (steps ++ step ∷ []) after → Before variables sizes clauses steps step after
  before_last clauses [] step after good rows fair = record { before = clauses; long = omega arith; good = good; last = fair }
  before_last clauses (Derive clause chain ∷ steps) step after good rows fair =
      let here = chain_good variables clauses good chain clause fair.1.reached in
      let rest = before_last (clauses ++ clause ∷ []) steps step after (all_both (IsGood variables) clauses (clause ∷ []) good (here.0, tt)) rows fair.2 in
      let more = length-append clauses (clause ∷ []) in
      let long = rest.long in
      record { before = rest.before; long = omega arith; good = rest.good; last = rest.last }
  before_last clauses (Tell row ∷ steps) step after good rows fair =
      let denial = row_denial sizes row in
      let rest = before_last (clauses ++ denial ∷ []) steps step after
      (all_both (IsGood variables) clauses (denial ∷ []) good (denial_good variables sizes row positions rows.0, tt)) rows.1 fair.1 in
      let more = length-append clauses (denial ∷ []) in
      let long = rest.long in
      record { before = rest.before; long = omega arith; good = rest.good; last = rest.last }

module _ (axioms : Axioms) (count : Option ℕ) (budget : ℕ) (search : SearchView) (within : AreWithin axioms budget) where
  good : AllByRecursion (IsGood axioms.variables) axioms.clauses
  good = all_good axioms.variables axioms.clauses within.good.clauses within.good.over

  -- a section has not too many steps
  pub own_low : (section : Section) → Stands axioms count budget search section → length axioms.clauses + 1 + length section.steps ≤ 110000002
  own_low section stands =
      let fair = stands.tells.fair in
      let long = steps_few axioms.sizes axioms.clauses section.steps fair.clauses fair.steps in
      let same = counted_told section.steps in
      let all = length-append (flat_map row_told section.steps) (optional section.last) in
      let few = stands.few in
      let counted = fair.within in
      let spent = within.spent in
      let most = within.few in
      omega arith

  pub derived_writable : (steps : List Step) (clause : List Literal) (chain : List ℕ) (own : ℕ) → own ≡ length axioms.clauses + 1 + length steps →
      Stands axioms count budget search (open_section (steps ++ Derive clause chain ∷ [])) → IsWritable own (lines.Derived clause chain)
  derived_writable steps clause chain own is stands =
      let section = open_section (steps ++ Derive clause chain ∷ []) in
      let rows = denied_in axioms count budget section search stands in
      let front = all_front (IsRow axioms.sizes) (flat_map row_told steps) (flat_map row_told (Derive clause chain ∷ []))
      (subst (AllByRecursion (IsRow axioms.sizes)) (flat_map-append row_told steps (Derive clause chain ∷ [])) rows) in
      let there = before_last axioms.variables axioms.sizes within.good.positions axioms.clauses steps (Derive clause chain) stands.tells.fair.clauses good front stands.tells.fair.steps in
      let here = chain_good axioms.variables there.before there.good chain clause there.last.1.reached in
      let short = clause_few axioms.variables clause here.0 in
      let chain_short = there.last.1.short in
      let low = own_low section stands in
      let more = length-append steps (Derive clause chain ∷ []) in
      let most = within.variables in
      let long = there.long in
      let same : length there.before + 1 ≡ own = omega arith in
      (omega arith, (omega arith, omega arith), subst (λ (n : ℕ). AreBefore n chain) same here.1)

  pub blocked_writable : (steps : List Step) (row : List ℕ) (own : ℕ) → own ≡ length axioms.clauses + 1 + length steps →
      Stands axioms count budget search (open_section (steps ++ Tell row ∷ [])) → IsWritable own (lines.Block row)
  blocked_writable steps row own is stands =
      let section = open_section (steps ++ Tell row ∷ []) in
      let there : Contains (denied_rows section) row =
      subst (λ (l : List (List ℕ)). Contains l row) (sym (flat_map-append row_told steps (Tell row ∷ []))) (Contains-push (flat_map row_told steps) row) in
      let short = row_length axioms.sizes row (row_in axioms count budget section search stands row (in_front (denied_rows section) [] row there)) in
      let most = within.short in
      let low = own_low section stands in
      let more = length-append steps (Tell row ∷ []) in
      (omega arith, omega arith, tt)
