-- One search: what its lines show when it ends.
use Rattle.std.proofs.Common.{◌≡◌, ◌≢◌, ◌∙◌, ℕ, zero, suc, List, [], ◌∷◌, ◌++◌, length, Some, None, refl, sym, subst, ap, arith, append-nil, Result, Ok, Err, IfErr, IsErrAnd}
use Rattle.std.specs.Prelude.{flat_map}
use Rattle.std.specs.List.{AllByRecursion}
use Rattle.std.proofs.lemmas.Grind.{flat_map-append}
use Rattle.std.proofs.lemmas.List.{map-append}
use Rattle.cc_clauses.specs.RowsOf.{IsRowOf}
use Rattle.cc_defs.specs.declared.log.EndWord.{EndWord}
use Rattle.cc_defs.specs.declared.log.EndWord.TheVariants as words
use Rattle.cc_defs.specs.declared.log.LogLine.{LogLine}
use Rattle.cc_defs.specs.declared.log.LogLine.TheVariants as said
use Rattle.cc_defs.specs.declared.refusal.Fault.{Fault}
use Rattle.cc_defs.specs.declared.refusal.Fault.TheVariants as faults
use Rattle.cc_defs.specs.Histories.{AreFirstOf}
use Rattle.cc_defs.specs.LogTexts.{IsFormed}
use Rattle.cc_defs.specs.Runs.{Derive, row_told, rows_of}
use Rattle.cc_defs.specs.Sections.{Axioms}
use Rattle.cc_lists.specs.Sections.{open_section, section_of, step_line}
use Rattle.cc_lists.specs.Subjects.{AreGoodAxioms}
use Rattle.cc_lists.proofs.Members.{all_append}
use Rattle.cc_search.specs.declared.stage.Find.{Find}
use Rattle.cc_search.specs.declared.stage.Find.TheVariants as finds
use Rattle.cc_search.specs.declared.least.Outcome.{Outcome}
use Rattle.cc_search.specs.declared.least.Outcome.TheVariants as outcomes
use Rattle.cc_search.specs.Outcomes.{HasTold, IsEnded, IsOutcome}
use Rattle.cc_search.specs.Searches.{HasMore, IsBehind, IsRightFault, IsShortFind, SearchView, Stands, found_behind}

-- it is searched on: there is more, and these lines were told
pub record IsSearching (axioms : Axioms) (budget : ℕ) (search : SearchView) (lines : List LogLine) : Type 0 where
  pub more : HasMore search
  pub told : HasTold axioms budget search lines

pub searching : (axioms : Axioms) (budget : ℕ) (search : SearchView) (lines : List LogLine) → lines ≡ [] → HasMore search →
    Stands axioms (Some 1) budget search (open_section []) → AreGoodAxioms axioms → IsSearching axioms budget search lines
searching axioms budget search lines none more stands good = record {
  more = more;
  told = record {
    steps = [];
    stands = stands;
    silent = refl;
    lines_are = none;
    formed = subst (λ (l : List LogLine). AllByRecursion IsFormed l) (sym none) tt;
    good = good;
  };
}

some_one : (n : ℕ) → Some 1 ≡ Some n → n ≡ 0 → ⊥
some_one zero one none = absurd cc
some_one (suc n) one none = absurd cc

module _ (axioms : Axioms) (budget : ℕ) where
  -- no row was told, so that no refusal can come
  pub only_memory : (search : SearchView) (lines : List LogLine) (fault : Fault) → HasTold axioms budget search lines → IsRightFault search fault → fault ≡ faults.OutOfMemory
  only_memory search lines faults.OutOfMemory told is = refl
  only_memory search lines (faults.Refused refusal) told is =
      let many = (is.1 axioms (Some 1) budget (open_section told.steps) told.stands).many in
      let none = ap length told.silent in
      absurd (omega arith)

  module _ (old new : SearchView) (lines : List LogLine) (told : HasTold axioms budget old lines) where
    -- what is told next, of the section so far
    abbrev Comes : Find → Type 0
    Comes find = IsBehind (open_section told.steps) find × Stands axioms (Some 1) budget new (found_behind (open_section told.steps) new.row find)

    line_more : (line : LogLine) → Comes (finds.Line line) → IsFormed line → HasTold axioms budget new (lines ++ line ∷ [])
    line_more (said.Section conditions horizon) ((open_yet, none), stands) formed = absurd none
    line_more (said.Derived clause chain) (behind, stands) formed = record {
      steps = told.steps ++ Derive clause chain ∷ [];
      stands = stands;
      silent = ap (λ (l : List (List ℕ)). l ++ []) (flat_map-append row_told told.steps (Derive clause chain ∷ []) ∙ append-nil (flat_map row_told told.steps)) ∙ told.silent;
      lines_are = ap (λ (l : List LogLine). l ++ said.Derived clause chain ∷ []) told.lines_are ∙ sym (map-append step_line told.steps (Derive clause chain ∷ []));
      formed = all_append IsFormed lines (said.Derived clause chain ∷ []) told.formed (formed, tt);
      good = told.good;
    }
    line_more (said.Block row) ((open_yet, last), stands) formed = absurd cc
    line_more (said.End word) ((open_yet, none), stands) formed = absurd none

    pub line_told : (find : Find) (line : LogLine) (after : List LogLine) → Comes find → IsShortFind find → find ≡ finds.Line line → after ≡ lines ++ line ∷ [] →
        HasTold axioms budget new after
    line_told find line after comes short is after_is =
        subst (λ (l : List LogLine). HasTold axioms budget new l) (sym after_is)
        (line_more line (subst (λ (f : Find). Comes f) is comes) (subst IsShortFind is short))

    pub row_told_first : (find : Find) (row : List ℕ) → Comes find → find ≡ finds.Row → row ≡ new.row → AreFirstOf (IsRowOf axioms.sizes axioms.clauses) (row ∷ [])
    row_told_first find row comes is row_is =
        let here : Comes finds.Row = subst (λ (f : Find). Comes f) is comes in
        let none : flat_map row_told told.steps ≡ [] = sym (append-nil (flat_map row_told told.steps)) ∙ told.silent in
        subst (λ (r : List ℕ). AreFirstOf (IsRowOf axioms.sizes axioms.clauses) (r ∷ [])) (sym row_is)
        (subst (λ (l : List (List ℕ)). AreFirstOf (IsRowOf axioms.sizes axioms.clauses) (l ++ new.row ∷ [])) none here.1.tells.first)

    -- the section with its end word
    abbrev Closes : EndWord → Type 0
    Closes word = Stands axioms (Some 1) budget new (section_of told.steps None (Some word))

    pub closes : (find : Find) (word : EndWord) → Comes find → find ≡ finds.End word → Closes word
    closes find word comes is = (subst (λ (f : Find). Comes f) is comes).1

    pub not_found : (word : EndWord) → Closes word → word ≢ words.Found
    not_found word stands is =
        let one : Some 1 ≡ Some (length (rows_of (section_of told.steps None (Some word)))) = stands.tells.enough (ap Some is) in
        let none : length (rows_of (section_of told.steps None (Some word))) ≡ 0 = ap length told.silent in
        some_one (length (rows_of (section_of told.steps None (Some word)))) one none

    ended_so : (word : EndWord) → Closes word → IsEnded axioms budget word (lines ++ said.End word ∷ [])
    ended_so word stands = record {
      section = section_of told.steps None (Some word);
      tells = stands.tells;
      silent = told.silent;
      ends = refl;
      lines_are = ap (λ (l : List LogLine). l ++ said.End word ∷ []) told.lines_are;
      formed = all_append IsFormed lines (said.End word ∷ []) told.formed (tt, tt);
      good = told.good;
    }

    pub outcome_is : (word : EndWord) (all : List LogLine) (outcome : Outcome) → Closes word → all ≡ lines →
        (word ≡ words.Empty → outcome ≡ outcomes.Empty (all ++ said.End word ∷ [])) →
        (word ≡ words.Spent → outcome ≡ outcomes.Spent (all ++ said.End word ∷ [])) → IsOutcome axioms budget outcome
    outcome_is words.Empty all outcome stands same empty spent =
        subst (IsOutcome axioms budget) (sym (empty refl ∙ ap (λ (l : List LogLine). outcomes.Empty (l ++ said.End words.Empty ∷ [])) same)) (ended_so words.Empty stands)
    outcome_is words.Spent all outcome stands same empty spent =
        subst (IsOutcome axioms budget) (sym (spent refl ∙ ap (λ (l : List LogLine). outcomes.Spent (l ++ said.End words.Spent ∷ [])) same)) (ended_so words.Spent stands)
    outcome_is words.Found all outcome stands same empty spent = absurd (not_found words.Found stands refl)

pub errs_as : {T : Type 0} (r : Result T Fault) (fault : Fault) → IsErrAnd r (λ given. given ≡ fault) → fault ≡ faults.OutOfMemory → IfErr r (λ given. given ≡ faults.OutOfMemory)
errs_as (Ok done) fault is same = tt
errs_as (Err given) fault is same = is ∙ same
