-- The sections of all parts alike: what one has told, and what is true with one step or end word more.
use Rattle.std.proofs.Common.{◌≡◌, ◌≢◌, ◌∙◌, ℕ, ◌+◌, ◌<◌, ◌≤◌, List, [], ◌∷◌, ◌++◌, length, Option, Some, None, refl, sym, subst, ap}
use Rattle.std.specs.Prelude.{Contains, IfSome}
use Rattle.std.specs.Option.{option_map}
use Rattle.cc_clauses.specs.RowsOf.{IsLeastRowOf}
use Rattle.cc_defs.specs.declared.lists.Key.{Key}
use Rattle.cc_defs.specs.declared.log.EndWord.TheVariants as words
use Rattle.cc_defs.specs.Clauses.{Literal}
use Rattle.cc_defs.specs.Description.{Description}
use Rattle.cc_defs.specs.Histories.{IsListing, IsHistory, AreFirst}
use Rattle.cc_defs.specs.Resolved.{Query}
use Rattle.cc_defs.specs.Runs.{Ask, Step, Derive, Tell, Section, IsFairLine, IsTrueOf, TellsHistories, counted, counted_in, key_row, without_claim}
use Rattle.cc_defs.specs.Sections.{Axioms, HasNoEmpty, row_denial}
use Rattle.cc_lists.specs.Sections.{section_of, open_section, rows_in}
use Rattle.cc_query.specs.declared.phase.Part.{Part}
use Rattle.cc_query.specs.declared.phase.Part.TheVariants as parts
use Rattle.cc_query.specs.Laws.{SearchLaws as Laws}
use Rattle.cc_query.specs.Parts.{query_of, axioms_at, told_by, MayAsk, TellsTrue}
use Rattle.cc_query.specs.Sessions.{RowsAreHistories}
use Rattle.cc_query.proofs.Told.{HasTold, nothing_told, line_told, next_told, all_told, row_is_of, open_fair, found_fair, empty_fair, spent_fair, listing_asked, listing_denied, listing_empty, listing_next, listing_on, listing_on_told, listing_open, listing_spent, listing_telling, looks, told_of_look}
use Rattle.cc_query.proofs.Steps.{none_empty, rows_kept}

-- how many histories it may still tell: fewer than are asked for; of a claim, none
abbrev pub MayGoOn : Part → Ask → List Step → Type 0
MayGoOn parts.Histories ask steps = IfSome ask.count (λ most. length (rows_in steps) < most)
MayGoOn parts.Conditions ask steps = (rows_in steps ≡ []) × (ask.after ≡ None)
MayGoOn parts.Claim ask steps = (rows_in steps ≡ []) × (ask.after ≡ None)

pub record IsGoingOn (d : Description) (q : Query) (ask : Ask) (horizon : ℕ) (part : Part) (steps : List Step) (clauses : List (List Literal)) : Type 0 where
  pub told : HasTold (IsHistory d (query_of part q) horizon (key_row ask)) (axioms_at d q ask horizon part) ask.budget steps clauses
  pub may : MayGoOn part ask steps

pub true_of : (d : Description) (q : Query) (ask : Ask) (horizon : ℕ) (part : Part) (before section : Section) → MayAsk d q ask horizon part before →
    TellsTrue d q ask horizon part section → IsTrueOf d q ask horizon (told_by part before section)
true_of d q ask horizon parts.Histories before section may tells = (may, tells)
true_of d q ask horizon parts.Conditions before section may tells = (may, tells)
true_of d q ask horizon parts.Claim before section may tells = (may.0, may.1, may.2, tells)

pub asked_of : (d : Description) (q : Query) (ask : Ask) (horizon : ℕ) (part : Part) (before section : Section) → IsTrueOf d q ask horizon (told_by part before section) →
    MayAsk d q ask horizon part before × TellsTrue d q ask horizon part section
asked_of d q ask horizon parts.Histories before section is = (is.0, is.1)
asked_of d q ask horizon parts.Conditions before section is = (is.0, is.1)
asked_of d q ask horizon parts.Claim before section is = ((is.0, is.1, is.2), is.3)

no_key : (ask : Ask) → ask.after ≡ None → key_row ask ≡ None
no_key ask none = ap (λ (key : Option Key). option_map (λ k. k.row) key) none

none_yet : (part : Part) (ask : Ask) → (part ≢ parts.Histories → ask.after ≡ None) → IfSome ask.count (λ most. 0 < most) → MayGoOn part ask []
none_yet parts.Histories ask key some = some
none_yet parts.Conditions ask key some = (refl, key (λ is. absurd cc))
none_yet parts.Claim ask key some = (refl, key (λ is. absurd cc))

module _ (laws : Laws) (d : Description) (q : Query) (ask : Ask) (horizon : ℕ) where
  pub going_on : (part : Part) (steps : List Step) → (part ≢ parts.Histories → ask.after ≡ None) → TellsTrue d q ask horizon part (open_section steps) →
      (clauses : List (List Literal)) × IsGoingOn d q ask horizon part steps clauses
  going_on parts.Histories steps key tells =
      let on = listing_on laws (IsHistory d q horizon (key_row ask)) (axioms_at d q ask horizon parts.Histories) ask.count ask.budget steps tells in
      (on.0, record { told = on.1.told; may = on.1.may })
  going_on parts.Conditions steps key tells =
      let told = told_of_look d (without_claim q) (axioms_at d q ask horizon parts.Conditions) (key_row ask) ask.budget horizon steps tells in
      (told.0, record { told = told.1; may = (told.2, key (λ is. absurd cc)) })
  going_on parts.Claim steps key tells =
      let told = told_of_look d q (axioms_at d q ask horizon parts.Claim) (key_row ask) ask.budget horizon steps tells in
      (told.0, record { told = told.1; may = (told.2, key (λ is. absurd cc)) })

  pub begun : (part : Part) → (part ≢ parts.Histories → ask.after ≡ None) → IfSome ask.count (λ most. 0 < most) →
      IsGoingOn d q ask horizon part [] (axioms_at d q ask horizon part).clauses
  begun part key some = record {
    told = nothing_told laws (IsHistory d (query_of part q) horizon (key_row ask)) (axioms_at d q ask horizon part) ask.budget;
    may = none_yet part ask key some;
  }

  abbrev form_at : Part → Axioms
  form_at part = axioms_at d q ask horizon part

  pub line_on : (part : Part) (steps : List Step) (clauses : List (List Literal)) → IsGoingOn d q ask horizon part steps clauses →
      (clause : List Literal) (chain : List ℕ) → HasNoEmpty clauses → IsFairLine clauses clause chain → counted_in steps + counted (Derive clause chain) ≤ ask.budget →
      IsGoingOn d q ask horizon part (steps ++ Derive clause chain ∷ []) (clauses ++ clause ∷ [])
  line_on part steps clauses is clause chain none line most = record {
    told = line_told laws (IsHistory d (query_of part q) horizon (key_row ask)) (form_at part) ask.budget steps clauses is.told clause chain none line most;
    may = kept_by part is.may;
  }
    where
      kept_by : (p : Part) → MayGoOn p ask steps → MayGoOn p ask (steps ++ Derive clause chain ∷ [])
      kept_by parts.Histories may = subst (λ (rows : List (List ℕ)). IfSome ask.count (λ m. length rows < m)) (sym (rows_kept steps clause chain)) may
      kept_by parts.Conditions may = (rows_kept steps clause chain ∙ may.0, may.1)
      kept_by parts.Claim may = (rows_kept steps clause chain ∙ may.0, may.1)

  pub open_true : (part : Part) (steps : List Step) (clauses : List (List Literal)) → IsGoingOn d q ask horizon part steps clauses →
      TellsTrue d q ask horizon part (open_section steps)
  open_true parts.Histories steps clauses is =
      listing_open laws (IsHistory d q horizon (key_row ask)) (form_at parts.Histories) ask.count ask.budget steps clauses (record { told = is.told; may = is.may })
  open_true parts.Conditions steps clauses is =
      looks d (without_claim q) (form_at parts.Conditions) ask.budget horizon steps None
      (open_fair laws (IsHistory d (without_claim q) horizon (key_row ask)) (form_at parts.Conditions) ask.budget steps clauses is.told None)
      is.may.0 (λ e. absurd cc) (λ e. absurd cc)
  open_true parts.Claim steps clauses is =
      looks d q (form_at parts.Claim) ask.budget horizon steps None
      (open_fair laws (IsHistory d q horizon (key_row ask)) (form_at parts.Claim) ask.budget steps clauses is.told None) is.may.0 (λ e. absurd cc) (λ e. absurd cc)

  pub spent_true : (part : Part) (steps : List Step) (clauses : List (List Literal)) → IsGoingOn d q ask horizon part steps clauses →
      HasNoEmpty clauses → counted_in steps ≡ ask.budget → TellsTrue d q ask horizon part (section_of steps None (Some words.Spent))
  spent_true parts.Histories steps clauses is none all =
      listing_spent laws (IsHistory d q horizon (key_row ask)) (form_at parts.Histories) ask.count ask.budget steps clauses (record { told = is.told; may = is.may }) none all
  spent_true parts.Conditions steps clauses is none all =
      looks d (without_claim q) (form_at parts.Conditions) ask.budget horizon steps (Some words.Spent)
      (spent_fair laws (IsHistory d (without_claim q) horizon (key_row ask)) (form_at parts.Conditions) ask.budget steps clauses is.told None none all)
      is.may.0 (λ e. absurd cc) (λ e. absurd cc)
  spent_true parts.Claim steps clauses is none all =
      looks d q (form_at parts.Claim) ask.budget horizon steps (Some words.Spent)
      (spent_fair laws (IsHistory d q horizon (key_row ask)) (form_at parts.Claim) ask.budget steps clauses is.told None none all)
      is.may.0 (λ e. absurd cc) (λ e. absurd cc)

  pub empty_true : (part : Part) (steps : List Step) (clauses : List (List Literal)) → IsGoingOn d q ask horizon part steps clauses →
      RowsAreHistories d q ask horizon part → Contains clauses [] → TellsTrue d q ask horizon part (section_of steps None (Some words.Empty))
  empty_true parts.Histories steps clauses is rows there =
      listing_empty laws (IsHistory d q horizon (key_row ask)) (form_at parts.Histories) ask.count ask.budget steps clauses (record { told = is.told; may = is.may }) rows.rows there
  empty_true parts.Conditions steps clauses is rows there =
      looks d (without_claim q) (form_at parts.Conditions) ask.budget horizon steps (Some words.Empty)
      (empty_fair laws (IsHistory d (without_claim q) horizon (key_row ask)) (form_at parts.Conditions) ask.budget steps clauses is.told None there) is.may.0
      (λ _. subst (λ (key : Option (List ℕ)). IsListing d (without_claim q) horizon key (rows_in steps)) (no_key ask is.may.1)
      (all_told laws (IsHistory d (without_claim q) horizon (key_row ask)) (form_at parts.Conditions) ask.budget steps clauses is.told rows.rows there))
      (λ e. absurd cc)
  empty_true parts.Claim steps clauses is rows there =
      looks d q (form_at parts.Claim) ask.budget horizon steps (Some words.Empty)
      (empty_fair laws (IsHistory d q horizon (key_row ask)) (form_at parts.Claim) ask.budget steps clauses is.told None there) is.may.0
      (λ _. subst (λ (key : Option (List ℕ)). IsListing d q horizon key (rows_in steps)) (no_key ask is.may.1)
      (all_told laws (IsHistory d q horizon (key_row ask)) (form_at parts.Claim) ask.budget steps clauses is.told rows.rows there))
      (λ e. absurd cc)

  pub found_true : (part : Part) → part ≢ parts.Histories → (steps : List Step) (clauses : List (List Literal)) → IsGoingOn d q ask horizon part steps clauses →
      RowsAreHistories d q ask horizon part → (row : List ℕ) → IsLeastRowOf (form_at part).sizes clauses row →
      TellsTrue d q ask horizon part (section_of steps None (Some words.Found))
  found_true parts.Histories other steps clauses is rows row least = absurd (other refl)
  found_true parts.Conditions other steps clauses is rows row least =
      looks d (without_claim q) (form_at parts.Conditions) ask.budget horizon steps (Some words.Found)
      (found_fair laws (IsHistory d (without_claim q) horizon (key_row ask)) (form_at parts.Conditions) ask.budget steps clauses is.told None
      (none_empty (form_at parts.Conditions).sizes clauses row least.one))
      is.may.0 (λ e. absurd cc)
      (λ _. (
        row,
        subst (λ (key : Option (List ℕ)). IsHistory d (without_claim q) horizon key row) (no_key ask is.may.1)
            (row_is_of laws (IsHistory d (without_claim q) horizon (key_row ask)) (form_at parts.Conditions) ask.budget steps clauses is.told rows.rows row least.one),
      ))
  found_true parts.Claim other steps clauses is rows row least =
      looks d q (form_at parts.Claim) ask.budget horizon steps (Some words.Found)
      (found_fair laws (IsHistory d q horizon (key_row ask)) (form_at parts.Claim) ask.budget steps clauses is.told None
      (none_empty (form_at parts.Claim).sizes clauses row least.one))
      is.may.0 (λ e. absurd cc)
      (λ _. (
        row,
        subst (λ (key : Option (List ℕ)). IsHistory d q horizon key row) (no_key ask is.may.1)
            (row_is_of laws (IsHistory d q horizon (key_row ask)) (form_at parts.Claim) ask.budget steps clauses is.told rows.rows row least.one),
      ))

  -- the row that goes against a claim is the least one
  pub counterexample_first : (steps : List Step) (clauses : List (List Literal)) → IsGoingOn d q ask horizon parts.Claim steps clauses →
      RowsAreHistories d q ask horizon parts.Claim → (row : List ℕ) → IsLeastRowOf (form_at parts.Claim).sizes clauses row → AreFirst d q horizon None (row ∷ [])
  counterexample_first steps clauses is rows row least =
      subst (λ (key : Option (List ℕ)). AreFirst d q horizon key (row ∷ [])) (no_key ask is.may.1)
      (subst (λ (told : List (List ℕ)). AreFirst d q horizon (key_row ask) (told ++ row ∷ [])) is.may.0
      (next_told laws (IsHistory d q horizon (key_row ask)) (form_at parts.Claim) ask.budget steps clauses is.told rows.rows row least))

  -- ---- histories

  pub telling_true : (steps : List Step) (clauses : List (List Literal)) → IsGoingOn d q ask horizon parts.Histories steps clauses →
      RowsAreHistories d q ask horizon parts.Histories → (row : List ℕ) → IsLeastRowOf (form_at parts.Histories).sizes clauses row →
      TellsHistories d q ask horizon (section_of steps (Some row) None)
  telling_true steps clauses is rows row least =
      listing_telling laws (IsHistory d q horizon (key_row ask)) (form_at parts.Histories) ask.count ask.budget steps clauses (record { told = is.told; may = is.may }) rows.rows row least

  pub next_first : (steps : List Step) (clauses : List (List Literal)) → IsGoingOn d q ask horizon parts.Histories steps clauses →
      RowsAreHistories d q ask horizon parts.Histories → (row : List ℕ) → IsLeastRowOf (form_at parts.Histories).sizes clauses row →
      AreFirst d q horizon (key_row ask) (rows_in steps ++ row ∷ [])
  next_first steps clauses is rows row least =
      listing_next laws (IsHistory d q horizon (key_row ask)) (form_at parts.Histories) ask.count ask.budget steps clauses (record { told = is.told; may = is.may }) rows.rows row least

  pub asked_true : (steps : List Step) (clauses : List (List Literal)) → IsGoingOn d q ask horizon parts.Histories steps clauses →
      RowsAreHistories d q ask horizon parts.Histories → (row : List ℕ) → IsLeastRowOf (form_at parts.Histories).sizes clauses row →
      ask.count ≡ Some (length (rows_in steps) + 1) → TellsHistories d q ask horizon (section_of steps (Some row) (Some words.Found))
  asked_true steps clauses is rows row least all =
      listing_asked laws (IsHistory d q horizon (key_row ask)) (form_at parts.Histories) ask.count ask.budget steps clauses (record { told = is.told; may = is.may }) rows.rows row least all

  pub denied_on : (steps : List Step) (clauses : List (List Literal)) → IsGoingOn d q ask horizon parts.Histories steps clauses →
      RowsAreHistories d q ask horizon parts.Histories → (row : List ℕ) → IsLeastRowOf (form_at parts.Histories).sizes clauses row →
      IfSome ask.count (λ most. length (rows_in steps) + 1 < most) →
      IsGoingOn d q ask horizon parts.Histories (steps ++ Tell row ∷ []) (clauses ++ row_denial (form_at parts.Histories).sizes row ∷ [])
  denied_on steps clauses is rows row least few =
      let on = listing_denied laws (IsHistory d q horizon (key_row ask)) (form_at parts.Histories) ask.count ask.budget steps clauses (record { told = is.told; may = is.may }) rows.rows row least few in
      record { told = on.told; may = on.may }

  pub going_on_told : (steps : List Step) (row : List ℕ) → TellsHistories d q ask horizon (section_of steps (Some row) None) →
      (clauses : List (List Literal)) × IsGoingOn d q ask horizon parts.Histories steps clauses
  going_on_told steps row tells =
      let on = listing_on_told laws (IsHistory d q horizon (key_row ask)) (form_at parts.Histories) ask.count ask.budget steps row tells in (on.0, record { told = on.1.told; may = on.1.may })
