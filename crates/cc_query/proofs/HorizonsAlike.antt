-- Horizons whose lines are the same, of two fair runs of one query.
use Rattle.std.proofs.Common.{◌≡◌, ◌∙◌, ℕ, ◌⊎◌, inl, inr, Bool, true, false, List, [], ◌∷◌, ◌++◌, length, Option, Some, None, refl, sym, ap, ap₂, arith, append_assoc}
use Rattle.std.specs.Prelude.{is_some}
use Rattle.cc_defs.specs.declared.event.Ending.{Ending}
use Rattle.cc_defs.specs.declared.event.Ending.TheVariants as endings
use Rattle.cc_defs.specs.declared.log.EndWord.{EndWord}
use Rattle.cc_defs.specs.declared.log.EndWord.TheVariants as words
use Rattle.cc_defs.specs.declared.log.LogLine.{LogLine}
use Rattle.cc_defs.specs.Description.{Description}
use Rattle.cc_defs.specs.Resolved.{Query}
use Rattle.cc_defs.specs.Runs.{Ask, Step, Section, Horizon, Histories, Conditions, Claim, Failure, EndsWith, IsExhausted, IsTrueOf, MayEndWithin, TellsHistories, denied_rows, horizon_events, optional, rows_of, section_events}
use Rattle.cc_lists.specs.Subjects.{lines_of}
use Rattle.cc_lists.proofs.LinesRead.{IsAlike, IsHeaded, asked_lines, claim_lines, failed_lines, sections_alike, some_line}

-- ---- sections

abbrev made : List Step → Option (List ℕ) → Option EndWord → Section
made steps last word = record { steps = steps; last = last; word = word }

pub same_section : (one other : Section) → IsAlike one other → one.last ≡ other.last → one ≡ other
same_section one other alike last =
    ap (λ (steps : List Step). made steps one.last one.word) alike.0
    ∙ ap (λ (row : Option (List ℕ)). made other.steps row one.word) last
    ∙ ap (λ (word : Option EndWord). made other.steps other.last word) alike.1

none_last : (rows : List (List ℕ)) (last : Option (List ℕ)) → rows ++ optional last ≡ [] → last ≡ None
none_last [] None none = refl
none_last [] (Some row) none = absurd cc
none_last (row ∷ rows) last none = absurd cc

-- sections that tell no row
pub same_silent : (one other : Section) → IsAlike one other → rows_of one ≡ [] → rows_of other ≡ [] → one ≡ other
same_silent one other alike none other_none =
    same_section one other alike (none_last (denied_rows one) one.last none ∙ sym (none_last (denied_rows other) other.last other_none))

pub other_word : (section : Section) (word other : EndWord) → EndsWith word section → EndsWith other section → word ≡ other
other_word section word other is other_is = let same : Some word ≡ Some other = sym is ∙ other_is in cc

-- ---- horizons whose sections are alike

abbrev pub AreAlike : Horizon → Horizon → Type 0
AreAlike (Histories one) (Histories other) = IsAlike one other
AreAlike (Conditions one) (Conditions other) = IsAlike one other
AreAlike (Claim first one) (Claim second other) = IsAlike first second × IsAlike one other
AreAlike (Claim first one) (Failure second other row) = IsAlike first second × IsAlike one other
AreAlike (Failure first one row) (Claim second other) = IsAlike first second × IsAlike one other
AreAlike (Failure first one row) (Failure second other last) = IsAlike first second × IsAlike one other
AreAlike one other = ⊥

pub claims_apart : (claim : Bool) → claim ≡ false → claim ≡ true → ⊥
claims_apart claim none some = absurd cc

not_both : (word : Option EndWord) → word ≡ Some words.Empty → word ≡ Some words.Found → ⊥
not_both word empty found = absurd cc

-- a section on the conditions that is the last, or that ended with `empty`, is not one that a claim follows
not_followed : (at : ℕ) (one other claim : Section) (more others : List LogLine) → EndsWith words.Found other → EndsWith words.Empty one ⊎ (more ≡ []) →
    IsHeaded more → lines_of (section_events true at one) ++ more ≡ claim_lines at other claim ++ others → ⊥
not_followed at one other claim more others found last headed same =
    let alike = sections_alike true at one other more (lines_of (section_events false at claim) ++ others) headed tt
    (same ∙ append_assoc (lines_of (section_events true at other)) (lines_of (section_events false at claim)) others) in
    elim last [
      | inl empty ↦ not_both one.word empty (alike.0.1 ∙ found)
      | inr none ↦ some_line _ _ (sym alike.1 ∙ none)
    ]

claims_alike : (at : ℕ) (first one second other : Section) (more others : List LogLine) → IsHeaded more → IsHeaded others →
    claim_lines at first one ++ more ≡ claim_lines at second other ++ others → (IsAlike first second × IsAlike one other) × (more ≡ others)
claims_alike at first one second other more others headed other_headed same =
    let front = sections_alike true at first second (lines_of (section_events false at one) ++ more) (lines_of (section_events false at other) ++ others) tt tt
    (sym (append_assoc (lines_of (section_events true at first)) (lines_of (section_events false at one)) more) ∙ same
    ∙ append_assoc (lines_of (section_events true at second)) (lines_of (section_events false at other)) others) in
    let behind = sections_alike false at one other more others headed other_headed front.1 in
    ((front.0, behind.0), behind.1)

module _ (d : Description) (q : Query) (ask : Ask) (at : ℕ) where
  -- done with, or the last one
  abbrev pub IsOver : Horizon → List LogLine → Type 0
  IsOver told more = IsExhausted ask told ⊎ (more ≡ [])

  over_conditions : (section : Section) (more : List LogLine) → IsOver (Conditions section) more → EndsWith words.Empty section ⊎ (more ≡ [])
  over_conditions section more is = is

  front_is : (a b more : List LogLine) → a ≡ b → a ++ more ≡ b ++ more
  front_is a b more same = ap (λ (l : List LogLine). l ++ more) same

  pub horizons_alike : (one other : Horizon) (more others : List LogLine) → IsTrueOf d q ask at one → IsTrueOf d q ask at other →
      IsHeaded more → IsHeaded others → IsOver one more → IsOver other others →
      lines_of (horizon_events at one) ++ more ≡ lines_of (horizon_events at other) ++ others → AreAlike one other × (more ≡ others)
  horizons_alike (Histories one) (Histories other) more others is other_is headed other_headed over other_over same =
      sections_alike false at one other more others headed other_headed same
  horizons_alike (Histories one) (Conditions other) more others is other_is headed other_headed over other_over same =
      absurd (claims_apart (is_some q.claim) is.0 other_is.0)
  horizons_alike (Histories one) (Claim second other) more others is other_is headed other_headed over other_over same =
      absurd (claims_apart (is_some q.claim) is.0 other_is.0)
  horizons_alike (Histories one) (Failure second other row) more others is other_is headed other_headed over other_over same =
      absurd (claims_apart (is_some q.claim) is.0 other_is.0)
  horizons_alike (Conditions one) (Histories other) more others is other_is headed other_headed over other_over same =
      absurd (claims_apart (is_some q.claim) other_is.0 is.0)
  horizons_alike (Claim first one) (Histories other) more others is other_is headed other_headed over other_over same =
      absurd (claims_apart (is_some q.claim) other_is.0 is.0)
  horizons_alike (Failure first one row) (Histories other) more others is other_is headed other_headed over other_over same =
      absurd (claims_apart (is_some q.claim) other_is.0 is.0)
  horizons_alike (Conditions one) (Conditions other) more others is other_is headed other_headed over other_over same =
      sections_alike true at one other more others headed other_headed same
  horizons_alike (Conditions one) (Claim second other) more others is other_is headed other_headed over other_over same =
      absurd (not_followed at one second other more others other_is.2 over headed (same ∙ front_is _ (claim_lines at second other) others (asked_lines at second other)))
  horizons_alike (Conditions one) (Failure second other row) more others is other_is headed other_headed over other_over same =
      absurd (not_followed at one second other more others other_is.2 over headed (same ∙ front_is _ (claim_lines at second other) others (failed_lines at second other row)))
  horizons_alike (Claim first one) (Conditions other) more others is other_is headed other_headed over other_over same =
      absurd (not_followed at other first one others more is.2 other_over other_headed (sym same ∙ front_is _ (claim_lines at first one) more (asked_lines at first one)))
  horizons_alike (Failure first one row) (Conditions other) more others is other_is headed other_headed over other_over same =
      absurd (not_followed at other first one others more is.2 other_over other_headed (sym same ∙ front_is _ (claim_lines at first one) more (failed_lines at first one row)))
  horizons_alike (Claim first one) (Claim second other) more others is other_is headed other_headed over other_over same =
      claims_alike at first one second other more others headed other_headed
      (sym (front_is _ (claim_lines at first one) more (asked_lines at first one)) ∙ same ∙ front_is _ (claim_lines at second other) others (asked_lines at second other))
  horizons_alike (Claim first one) (Failure second other row) more others is other_is headed other_headed over other_over same =
      claims_alike at first one second other more others headed other_headed
      (sym (front_is _ (claim_lines at first one) more (asked_lines at first one)) ∙ same ∙ front_is _ (claim_lines at second other) others (failed_lines at second other row))
  horizons_alike (Failure first one row) (Claim second other) more others is other_is headed other_headed over other_over same =
      claims_alike at first one second other more others headed other_headed
      (sym (front_is _ (claim_lines at first one) more (failed_lines at first one row)) ∙ same ∙ front_is _ (claim_lines at second other) others (asked_lines at second other))
  horizons_alike (Failure first one row) (Failure second other last) more others is other_is headed other_headed over other_over same =
      claims_alike at first one second other more others headed other_headed
      (sym (front_is _ (claim_lines at first one) more (failed_lines at first one row)) ∙ same ∙ front_is _ (claim_lines at second other) others (failed_lines at second other last))

  -- ---- horizons that are done with

  -- a section whose word is `empty` keeps no row undenied
  empty_last : (section : Section) (last : Option (List ℕ)) → section.last ≡ last → TellsHistories d q ask at section → EndsWith words.Empty section → last ≡ None
  empty_last section None is tells empty = refl
  empty_last section (Some row) is tells empty =
      let found = tells.undenied (ap (λ (o : Option (List ℕ)). is_some o) is) (ap (λ (o : Option EndWord). is_some o) empty) in
      let word = other_word section words.Empty words.Found empty found in absurd cc

  pub exhausted_same : (one other : Horizon) → AreAlike one other → IsTrueOf d q ask at one → IsTrueOf d q ask at other → IsExhausted ask other → one ≡ other
  exhausted_same (Histories one) (Histories other) alike is other_is exhausted =
      ap (λ (s : Section). Histories s) (same_section one other alike
      (empty_last one one.last refl is.1 (alike.1 ∙ exhausted.0) ∙ sym (empty_last other other.last refl other_is.1 exhausted.0)))
  exhausted_same (Conditions one) (Conditions other) alike is other_is exhausted =
      ap (λ (s : Section). Conditions s) (same_silent one other alike is.1.silent other_is.1.silent)
  exhausted_same (Claim first one) (Claim second other) alike is other_is exhausted =
      ap₂ (λ (c s : Section). Claim c s) (same_silent first second alike.0 is.1.silent other_is.1.silent) (same_silent one other alike.1 is.3.silent other_is.3.silent)
  exhausted_same (Failure first one row) (Claim second other) alike is other_is exhausted =
      let word = other_word one words.Empty words.Found (alike.1.1 ∙ exhausted) is.4 in absurd cc
  exhausted_same (Claim first one) (Failure second other row) alike is other_is exhausted = absurd exhausted
  exhausted_same (Failure first one row) (Failure second other last) alike is other_is exhausted = absurd exhausted
  exhausted_same one other alike is other_is exhausted = absurd alike

  -- no ending comes within such a horizon
  pub exhausted_ends : (told : Horizon) (ending : Ending) → IsExhausted ask told → MayEndWithin ask at told ending → ⊥
  exhausted_ends (Histories section) (endings.Complete horizon listed) exhausted ends = elim ends.3 [
    | inl some ↦ let none = ap (λ (rows : List (List ℕ)). length rows) exhausted.1 in omega (arith, none, some)
    | inr after ↦ claims_apart (is_some ask.after) exhausted.2 after
  ]
  exhausted_ends (Histories section) (endings.Asked horizon listed) exhausted ends = let word = other_word section words.Empty words.Found exhausted.0 ends.2 in absurd cc
  exhausted_ends (Histories section) (endings.Spent horizon listed) exhausted ends = let word = other_word section words.Empty words.Spent exhausted.0 ends.2 in absurd cc
  exhausted_ends (Conditions section) (endings.Spent horizon listed) exhausted ends = let word = other_word section words.Empty words.Spent exhausted ends.2 in absurd cc
  exhausted_ends (Claim conditions claim) (endings.Spent horizon listed) exhausted ends = let word = other_word claim words.Empty words.Spent exhausted ends.2 in absurd cc
  exhausted_ends (Failure conditions claim row) ending exhausted ends = absurd exhausted
  exhausted_ends told ending exhausted ends = absurd ends
