-- A section that is searched: what its steps tell is true, line by line, history by history, and with each end word.
use Rattle.std.proofs.Common.{◌≡◌, ◌∙◌, ℕ, ◌+◌, ◌<◌, ◌≤◌, suc, List, [], ◌∷◌, ◌++◌, length, Option, Some, None, refl, sym, subst, ap, arith, append-nil}
use Rattle.std.specs.Prelude.{◌↔◌, Contains, IfSome, IsSome}
use Rattle.std.proofs.lemmas.List.{length_push}
use Rattle.cc_clauses.specs.RowsOf.{IsRowOf, IsLeastRowOf}
use Rattle.cc_defs.specs.declared.log.EndWord.{EndWord}
use Rattle.cc_defs.specs.declared.log.EndWord.TheVariants as words
use Rattle.cc_defs.specs.Clauses.{Literal}
use Rattle.cc_defs.specs.Description.{Description}
use Rattle.cc_defs.specs.Histories.{IsHistory, IsListing, AreAllOf, AreFirst, AreFirstOf}
use Rattle.cc_defs.specs.Resolved.{Query}
use Rattle.cc_defs.specs.Rows.{IsRow}
use Rattle.cc_defs.specs.Runs.{Step, Derive, Tell, AreFairSteps, IsFairLine, IsFairSection, LooksForOne, TellsRows, counted, counted_in}
use Rattle.cc_defs.specs.Sections.{Axioms, HasNoEmpty, row_denial}
use Rattle.cc_lists.specs.Sections.{rows_in, section_of, open_section}
use Rattle.cc_lists.proofs.Members.{in_none}
use Rattle.cc_query.specs.Laws.{SearchLaws as Laws}
use Rattle.cc_query.proofs.Rows.{first_front, first_none, first_more, first_are_all}
use Rattle.cc_query.proofs.Steps.{fair_line, fair_tell, counted_more, rows_more, rows_kept, row_before, row_not_told, row_behind, none_empty}

-- Fair steps within the budget, by which the first rows of a kind are told; these clauses are there behind them.
pub record HasTold (Is : List ℕ → Type 0) (form : Axioms) (budget : ℕ) (steps : List Step) (clauses : List (List Literal)) : Type 0 where
  pub fair : AreFairSteps form.sizes form.clauses steps clauses
  pub within : counted_in steps ≤ budget
  pub first : AreFirstOf Is (rows_in steps)

module _ (laws : Laws) (Is : List ℕ → Type 0) (form : Axioms) (budget : ℕ) where
  pub nothing_told : HasTold Is form budget [] form.clauses
  nothing_told = record { fair = refl; within = omega arith; first = first_none Is }

  module _ (steps : List Step) (clauses : List (List Literal)) (told : HasTold Is form budget steps clauses) where
    pub line_told : (clause : List Literal) (chain : List ℕ) → HasNoEmpty clauses → IsFairLine clauses clause chain →
        counted_in steps + counted (Derive clause chain) ≤ budget →
        HasTold Is form budget (steps ++ Derive clause chain ∷ []) (clauses ++ clause ∷ [])
    line_told clause chain none line most = record {
      fair = fair_line form.sizes form.clauses steps clauses clause chain told.fair none line;
      within = let more = counted_more steps (Derive clause chain) in subst (λ (n : ℕ). n ≤ budget) (sym more) most;
      first = subst (λ (rows : List (List ℕ)). AreFirstOf Is rows) (sym (rows_kept steps clause chain)) told.first;
    }

    -- where the rows of the clauses are those of the kind
    module _ (rows : (row : List ℕ) → IsRowOf form.sizes form.clauses row ↔ Is row) where
      told_are_rows : (row : List ℕ) → Contains (rows_in steps) row → IsRow form.sizes row
      told_are_rows row there = ((rows row).1 (told.first.each row there)).is_row

      left_of : (row : List ℕ) → Is row → (Contains (rows_in steps) row → ⊥) → IsRowOf form.sizes clauses row
      left_of row is apart = row_behind laws.sound laws.leaves form.sizes form.clauses steps clauses row told.fair told_are_rows apart ((rows row).1 is)

      pub row_is_of : (row : List ℕ) → IsRowOf form.sizes clauses row → Is row
      row_is_of row is = (rows row).0 (row_before form.sizes form.clauses steps clauses row told.fair is)

      pub next_told : (row : List ℕ) → IsLeastRowOf form.sizes clauses row → AreFirstOf Is (rows_in steps ++ row ∷ [])
      next_told row is = first_more Is (rows_in steps) row told.first (row_is_of row is.one)
          (row_not_told laws.denies form.sizes form.clauses steps clauses row told.fair is.one)
          (λ other is_so apart. is.least other (left_of other is_so apart))

      pub row_told : (row : List ℕ) → IsLeastRowOf form.sizes clauses row →
          HasTold Is form budget (steps ++ Tell row ∷ []) (clauses ++ row_denial form.sizes row ∷ [])
      row_told row is = record {
        fair = fair_tell form.sizes form.clauses steps clauses row told.fair (none_empty form.sizes clauses row is.one);
        within = let more = counted_more steps (Tell row) in let within = told.within in omega arith;
        first = subst (λ (rows : List (List ℕ)). AreFirstOf Is rows) (sym (rows_more steps row)) (next_told row is);
      }

      pub all_told : Contains clauses [] → AreAllOf Is (rows_in steps)
      all_told there = first_are_all Is (rows_in steps) told.first
          (λ row is apart. none_empty form.sizes clauses row (left_of row is apart) there)

    -- ---- the section, with each end

    pub open_fair : (last : Option (List ℕ)) → IsFairSection form budget (section_of steps last None)
    open_fair last = record { clauses = clauses; steps = told.fair; within = told.within; ends = tt; spent = λ is. absurd cc }

    pub found_fair : (last : Option (List ℕ)) → HasNoEmpty clauses → IsFairSection form budget (section_of steps last (Some words.Found))
    found_fair last none = record {
      clauses = clauses;
      steps = told.fair;
      within = told.within;
      ends = ((λ is. absurd cc), (λ there. absurd (none there)));
      spent = λ is. absurd cc;
    }

    pub empty_fair : (last : Option (List ℕ)) → Contains clauses [] → IsFairSection form budget (section_of steps last (Some words.Empty))
    empty_fair last there = record {
      clauses = clauses;
      steps = told.fair;
      within = told.within;
      ends = ((λ is. there), (λ _. refl));
      spent = λ is. absurd cc;
    }

    pub spent_fair : (last : Option (List ℕ)) → HasNoEmpty clauses → counted_in steps ≡ budget → IsFairSection form budget (section_of steps last (Some words.Spent))
    spent_fair last none all = record {
      clauses = clauses;
      steps = told.fair;
      within = told.within;
      ends = ((λ is. absurd cc), (λ there. absurd (none there)));
      spent = λ _. all;
    }

-- ---- sections that tell rows of a kind

fewer : (count : Option ℕ) (a b : ℕ) → a ≤ b → IfSome count (λ most. b < most) → IfSome count (λ most. a < most)
fewer None a b low if = tt
fewer (Some most) a b low if = omega arith

at_most : (count : Option ℕ) (a b : ℕ) → a ≤ suc b → IfSome count (λ most. b < most) → IfSome count (λ most. a ≤ most)
at_most None a b low if = tt
at_most (Some most) a b low if = omega arith

module _ (Is : List ℕ → Type 0) (axioms : Axioms) (count : Option ℕ) (budget : ℕ) (steps : List Step) where
  -- with no last history
  module _ (word : Option EndWord) (fair : IsFairSection axioms budget (section_of steps None word))
      (first : AreFirstOf Is (rows_in steps)) (few : IfSome count (λ most. length (rows_in steps) < most)) where
    pub listing_so_far : (word ≡ Some words.Found → ⊥) → (word ≡ Some words.Empty → AreAllOf Is (rows_in steps)) →
        TellsRows Is axioms count budget (section_of steps None word)
    listing_so_far other all = record {
      fair = fair;
      first = subst (λ (rows : List (List ℕ)). AreFirstOf Is rows) (sym (append-nil (rows_in steps))) first;
      asked = at_most count (length (rows_in steps ++ [])) (length (rows_in steps)) (let same = ap (λ (l : List (List ℕ)). length l) (append-nil (rows_in steps)) in omega arith) few;
      denied = few;
      all_told = λ is. subst (λ (rows : List (List ℕ)). AreAllOf Is rows) (sym (append-nil (rows_in steps))) (all is);
      enough = λ is. absurd (other is);
      undenied = λ some. absurd cc;
    }

  -- with one
  module _ (word : Option EndWord) (row : List ℕ) (fair : IsFairSection axioms budget (section_of steps (Some row) word))
      (first : AreFirstOf Is (rows_in steps ++ row ∷ [])) (few : IfSome count (λ most. length (rows_in steps) < most)) where
    pub listing_to : (word ≡ Some words.Empty → ⊥) → (word ≡ Some words.Found → count ≡ Some (length (rows_in steps ++ row ∷ []))) →
        (IsSome word → word ≡ Some words.Found) → TellsRows Is axioms count budget (section_of steps (Some row) word)
    listing_to other enough found = record {
      fair = fair;
      first = first;
      asked = at_most count (length (rows_in steps ++ row ∷ [])) (length (rows_in steps)) (let same = length_push (rows_in steps) row in omega arith) few;
      denied = few;
      all_told = λ is. absurd (other is);
      enough = enough;
      undenied = λ _ some. found some;
    }

-- ---- a listing that goes on

-- what it has told, and that fewer rows are denied than are asked for
pub record IsListingOn (Is : List ℕ → Type 0) (axioms : Axioms) (count : Option ℕ) (budget : ℕ) (steps : List Step) (clauses : List (List Literal)) : Type 0 where
  pub told : HasTold Is axioms budget steps clauses
  pub may : IfSome count (λ most. length (rows_in steps) < most)

module _ (laws : Laws) (Is : List ℕ → Type 0) (axioms : Axioms) (count : Option ℕ) (budget : ℕ) where
  -- of a section that has not ended, with no last row, or with one
  pub listing_on : (steps : List Step) → TellsRows Is axioms count budget (open_section steps) →
      (clauses : List (List Literal)) × IsListingOn Is axioms count budget steps clauses
  listing_on steps tells = (
    tells.fair.clauses,
    record {
      told = record {
        fair = tells.fair.steps;
        within = tells.fair.within;
        first = subst (λ (rows : List (List ℕ)). AreFirstOf Is rows) (append-nil (rows_in steps)) tells.first;
      };
      may = tells.denied;
    },
  )

  pub listing_on_told : (steps : List Step) (row : List ℕ) → TellsRows Is axioms count budget (section_of steps (Some row) None) →
      (clauses : List (List Literal)) × IsListingOn Is axioms count budget steps clauses
  listing_on_told steps row tells = (
    tells.fair.clauses,
    record {
      told = record { fair = tells.fair.steps; within = tells.fair.within; first = first_front Is (rows_in steps) row tells.first };
      may = tells.denied;
    },
  )

  module _ (steps : List Step) (clauses : List (List Literal)) (is : IsListingOn Is axioms count budget steps clauses) where
    pub listing_open : TellsRows Is axioms count budget (open_section steps)
    listing_open =
        listing_so_far Is axioms count budget steps None (open_fair laws Is axioms budget steps clauses is.told None) is.told.first is.may
        (λ e. absurd cc) (λ e. absurd cc)

    pub listing_spent : HasNoEmpty clauses → counted_in steps ≡ budget → TellsRows Is axioms count budget (section_of steps None (Some words.Spent))
    listing_spent none all =
        listing_so_far Is axioms count budget steps (Some words.Spent) (spent_fair laws Is axioms budget steps clauses is.told None none all)
        is.told.first is.may (λ e. absurd cc) (λ e. absurd cc)

    module _ (rows : (row : List ℕ) → IsRowOf axioms.sizes axioms.clauses row ↔ Is row) where
      pub listing_empty : Contains clauses [] → TellsRows Is axioms count budget (section_of steps None (Some words.Empty))
      listing_empty there =
          listing_so_far Is axioms count budget steps (Some words.Empty) (empty_fair laws Is axioms budget steps clauses is.told None there)
          is.told.first is.may (λ e. absurd cc) (λ _. all_told laws Is axioms budget steps clauses is.told rows there)

      module _ (row : List ℕ) (least : IsLeastRowOf axioms.sizes clauses row) where
        pub listing_next : AreFirstOf Is (rows_in steps ++ row ∷ [])
        listing_next = next_told laws Is axioms budget steps clauses is.told rows row least

        pub listing_telling : TellsRows Is axioms count budget (section_of steps (Some row) None)
        listing_telling =
            listing_to Is axioms count budget steps None row (open_fair laws Is axioms budget steps clauses is.told (Some row))
            listing_next is.may (λ e. absurd cc) (λ e. absurd cc) (λ some. absurd cc)

        pub listing_asked : count ≡ Some (length (rows_in steps) + 1) → TellsRows Is axioms count budget (section_of steps (Some row) (Some words.Found))
        listing_asked all =
            listing_to Is axioms count budget steps (Some words.Found) row
            (found_fair laws Is axioms budget steps clauses is.told (Some row) (none_empty axioms.sizes clauses row least.one))
            listing_next is.may (λ e. absurd cc) (λ _. all ∙ ap (λ (n : ℕ). Some n) (sym (length_push (rows_in steps) row))) (λ _. refl)

        pub listing_denied : IfSome count (λ most. length (rows_in steps) + 1 < most) →
            IsListingOn Is axioms count budget (steps ++ Tell row ∷ []) (clauses ++ row_denial axioms.sizes row ∷ [])
        listing_denied few = record {
          told = row_told laws Is axioms budget steps clauses is.told rows row least;
          may = subst (λ (n : ℕ). IfSome count (λ most. n < most))
              (sym (ap (λ (l : List (List ℕ)). length l) (rows_more steps row) ∙ length_push (rows_in steps) row)) few;
        }

-- not yet so many as are asked for
pub still_fewer : (count : Option ℕ) (n : ℕ) → IfSome count (λ most. n < most) → (count ≡ Some (n + 1) → ⊥) → IfSome count (λ most. n + 1 < most)
still_fewer None n few other = tt
still_fewer (Some most) n few other = let apart : most ≡ n + 1 → ⊥ = λ same. other (ap (λ (k : ℕ). Some k) same) in omega arith

-- ---- sections that look for one

module _ (d : Description) (q : Query) (axioms : Axioms) (budget horizon : ℕ) (steps : List Step) (word : Option EndWord)
    (fair : IsFairSection axioms budget (section_of steps None word)) (silent : rows_in steps ≡ []) where
  pub looks : (word ≡ Some words.Empty → IsListing d q horizon None (rows_in steps)) →
      (word ≡ Some words.Found → (row : List ℕ) × IsHistory d q horizon None row) → LooksForOne d q axioms budget horizon (section_of steps None word)
  looks all some = record {
    fair = fair;
    silent = append-nil (rows_in steps) ∙ silent;
    none = λ is. subst (λ (rows : List (List ℕ)). IsListing d q horizon None rows) silent (all is);
    some = λ is none. let one = some is in in_none one.0 ((none.members one.0).1 one.1);
  }

-- ---- what such sections have told

pub told_of_look : (d : Description) (q : Query) (axioms : Axioms) (key : Option (List ℕ)) (budget horizon : ℕ) (steps : List Step) →
    LooksForOne d q axioms budget horizon (open_section steps) →
    (clauses : List (List Literal)) × HasTold (IsHistory d q horizon key) axioms budget steps clauses × (rows_in steps ≡ [])
told_of_look d q axioms key budget horizon steps looks =
    let silent : rows_in steps ≡ [] = sym (append-nil (rows_in steps)) ∙ looks.silent in (
      looks.fair.clauses,
      record {
        fair = looks.fair.steps;
        within = looks.fair.within;
        first = subst (λ (rows : List (List ℕ)). AreFirst d q horizon key rows) (sym silent) (first_none (IsHistory d q horizon key));
      },
      silent,
    )
