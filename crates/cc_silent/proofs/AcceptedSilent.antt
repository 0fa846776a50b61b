-- Where a log of silent sections is accepted, each heading that stands in it is right, and its axioms have no row.
use Rattle.std.proofs.Common.{◌≡◌, ◌≢◌, ℕ, ◌+◌, inl, inr, Bool, true, List, [], ◌∷◌, ◌++◌, length, Some, None, refl, sym, subst}
use Rattle.std.specs.Prelude.{Contains, false, if◌then◌else◌}
use Rattle.std.specs.List.{AllByRecursion}
use Rattle.std.proofs.lemmas.List.Elements.{Contains-append_cases}
use Rattle.cc_check.specs.declared.silent.Place.{Place}
use Rattle.cc_check.specs.declared.silent.SilentVerdict.{SilentVerdict}
use Rattle.cc_check.specs.declared.silent.SilentVerdict.TheVariants as verdicts
use Rattle.cc_check.specs.Laws.{SilentSectionsHaveNoRows}
use Rattle.cc_check.specs.Silent.{IsEmptySection, IsRightAt, IsSilentVerdict, IsSilentVerdictOf, IsStopped, IsUnread, LeadsTo, SilentSection, SilentSubject, ended_at, first_place, may_end, place_behind, refused_for}
use Rattle.cc_clauses.specs.RowsOf.{IsRowOf}
use Rattle.cc_defs.specs.declared.log.Cause.TheVariants as causes
use Rattle.cc_defs.specs.declared.log.EndWord.TheVariants as words
use Rattle.cc_defs.specs.declared.log.Version.TheVariants.{First}
use Rattle.cc_defs.specs.LogTexts.{lines_in}
use Rattle.cc_defs.specs.Sections.{Finding, Right, Trailed, Wrong, IsFound}
use Rattle.cc_lists.proofs.Members.{in_cases, in_none}

not_accepted : (finding : Finding) (count : ℕ) → refused_for finding ≡ Some (verdicts.Accepted count) → ⊥
not_accepted (Wrong line _) count is = absurd cc
not_accepted (Trailed words.Empty line _) count is = absurd cc
not_accepted (Trailed words.Found line _) count is = absurd cc
not_accepted (Trailed words.Spent line _) count is = absurd cc
not_accepted (Right words.Empty blocks line) count is = absurd cc
not_accepted (Right words.Found blocks line) count is = absurd cc
not_accepted (Right words.Spent blocks line) count is = absurd cc

right_empty : (finding : Finding) → refused_for finding ≡ None → (blocks : ℕ) × (line : ℕ) × (finding ≡ Right words.Empty blocks line)
right_empty (Wrong line _) is = absurd cc
right_empty (Trailed words.Empty line _) is = absurd cc
right_empty (Trailed words.Found line _) is = absurd cc
right_empty (Trailed words.Spent line _) is = absurd cc
right_empty (Right words.Empty blocks line) is = (blocks, line, refl)
right_empty (Right words.Found blocks line) is = absurd cc
right_empty (Right words.Spent blocks line) is = absurd cc

module _ {H : Type 0} (subject : SilentSubject H) where
  -- the section under this heading is right in some place, and refuted
  pub record IsRefuted (heading : H) : Type 0 where
    pub before : ℕ
    pub right : subject.Right before heading
    pub none : (row : List ℕ) → IsRowOf (subject.axioms heading).sizes (subject.axioms heading).clauses row → ⊥

  -- headings lead from one place to another, each right in its own, and refuted
  abbrev pub AreRefuted : Place → List H → Place → Type 0
  AreRefuted place [] last = last ≡ place
  AreRefuted place (heading ∷ headings) last =
      IsRightAt subject place heading × ((row : List ℕ) → IsRowOf (subject.axioms heading).sizes (subject.axioms heading).clauses row → ⊥)
      × AreRefuted (place_behind subject place heading) headings last

  abbrev Any : H → Type 0
  Any heading = Unit {0}

  ended_so : (place : Place) (line count : ℕ) → verdicts.Accepted count ≡ ended_at subject place line → (may_end subject place ≡ true) × (count ≡ place.before)
  ended_so place line count is = by (may_end subject place) refl is
    where
      by : (may : Bool) → may_end subject place ≡ may → verdicts.Accepted count ≡ (if may then verdicts.Accepted place.before else verdicts.Refused line causes.Section) →
          (may_end subject place ≡ true) × (count ≡ place.before)
      by true so is = (so, (let e : count ≡ place.before = cc in e))
      by false so is = absurd cc

  stopped_at : (place : Place) (line : ℕ) (rest : List (List ℕ)) (count : ℕ) → IsStopped subject Any place line rest (verdicts.Accepted count) →
      (rest ≡ []) × (may_end subject place ≡ true) × (count ≡ place.before)
  stopped_at place line [] count is = let (may, counted) = ended_so place line count is in (refl, may, counted)
  stopped_at place line (text ∷ rest) count (inl (unread, form, is)) = absurd cc
  stopped_at place line (text ∷ rest) count (inr (inl (unread, other, is))) = absurd cc
  stopped_at place line (text ∷ rest) count (inr (inr (section, behind, next, inl (wrong, is)))) = absurd cc
  stopped_at place line (text ∷ rest) count (inr (inr (section, behind, next, inr (right, passes, (finding, found, is))))) = absurd (not_accepted finding count is)

  module _ (law : SilentSectionsHaveNoRows) where
    none_at : (place : Place) (section : SilentSection H) → IsEmptySection subject Any place section → (row : List ℕ) →
        IsRowOf (subject.axioms section.heading).sizes (subject.axioms section.heading).clauses row → ⊥
    none_at place section (right, passes, (finding, found, none)) =
        let axioms = subject.axioms section.heading in
        let (blocks, last, is) = right_empty finding none in
        law First axioms section.texts (section.line + 1) blocks last
        (subst (λ (f : Finding). IsFound (record { version = First; blocks = false }) axioms axioms.clauses 0 (section.line + 1) section.texts f) is found)

    headings_of : (place : Place) (line : ℕ) (texts : List (List ℕ)) (sections : List (SilentSection H)) (last : Place) (after : ℕ) (rest : List (List ℕ)) →
        LeadsTo subject Any place line texts sections last after rest → (headings : List H) × AreRefuted place headings last
    headings_of place line texts [] last after rest leads = ([], leads.0)
    headings_of place line texts (section ∷ sections) last after rest (behind, next, empty, more) =
        let (headings, are) = headings_of (place_behind subject place section.heading) (line + 1 + length section.texts) behind sections last after rest more in
        (section.heading ∷ headings, (empty.0, none_at place section empty, are))

    -- An accepted log has headings that lead to a place where a log may end.
    pub record IsLedTo (count : ℕ) : Type 0 where
      pub headings : List H
      pub last : Place
      pub are : AreRefuted first_place headings last
      pub may : may_end subject last ≡ true
      pub counted : count ≡ last.before

    led_of : (texts : List (List ℕ)) (count : ℕ) → IsSilentVerdictOf subject Any texts (verdicts.Accepted count) → IsLedTo count
    led_of [] count verdict = absurd cc
    led_of (first ∷ texts) count (inl (other, wrong)) = absurd cc
    led_of (first ∷ texts) count (inr (same, (sections, last, line, rest, leads, stopped))) =
        let (headings, are) = headings_of first_place 2 texts sections last line rest leads in
        let ends = stopped_at last line rest count stopped in
        record { headings = headings; last = last; are = are; may = ends.1; counted = ends.2 }

    pub accepted_leads : (bytes : List ℕ) (verdict : SilentVerdict) → IsSilentVerdict subject bytes verdict → (count : ℕ) → verdict ≡ verdicts.Accepted count → IsLedTo count
    accepted_leads bytes verdict is count accepted = led_of (lines_in bytes) count (subst (λ (v : SilentVerdict). IsSilentVerdictOf subject Any (lines_in bytes) v) accepted is)

    module _ (one : (text : List ℕ) (heading other : H) → subject.Reads text heading → subject.Reads text other → heading ≡ other)
        (no_header : (text : List ℕ) (heading : H) → subject.Reads text heading → text ≢ subject.header) where
      refuted_at : (place : Place) (section : SilentSection H) → IsEmptySection subject Any place section → IsRefuted section.heading
      refuted_at place section empty = record { before = place.before; right = empty.0.1; none = none_at place section empty }

      unread_at : (texts : List (List ℕ)) → AllByRecursion (IsUnread subject) texts → (text : List ℕ) → Contains texts text → (heading : H) → subject.Reads text heading → ⊥
      unread_at [] unread text there heading is = in_none text there
      unread_at (first ∷ texts) unread text there heading is = elim (in_cases first text texts there) [
        | inl same ↦ unread.0 heading (subst (λ (t : List ℕ). subject.Reads t heading) (sym same) is)
        | inr rest ↦ unread_at texts unread.1 text rest heading is
      ]

      led_to : (place : Place) (line : ℕ) (texts : List (List ℕ)) (sections : List (SilentSection H)) (last : Place) (after : ℕ) →
          LeadsTo subject Any place line texts sections last after [] → (text : List ℕ) → Contains texts text → (heading : H) → subject.Reads text heading → IsRefuted heading
      led_to place line texts [] last after (place_is, line_is, texts_are) text there heading is =
          absurd (in_none text (subst (λ (l : List (List ℕ)). Contains l text) (sym texts_are) there))
      led_to place line texts (section ∷ sections) last after (behind, next, empty, more) text there heading is =
          elim (in_cases next.text text (section.texts ++ behind) (subst (λ (l : List (List ℕ)). Contains l text) next.parts there)) [
            | inl same ↦ subst IsRefuted (one text section.heading heading (subst (λ (t : List ℕ). subject.Reads t section.heading) same next.reads) is) (refuted_at place section empty)
            | inr rest ↦ elim (Contains-append_cases section.texts behind text rest) [
              | inl inside ↦ absurd (unread_at section.texts next.inside text inside heading is)
              | inr others ↦ led_to (place_behind subject place section.heading) (line + 1 + length section.texts) behind sections last after more text others heading is
            ]
          ]

      accepted_of : (texts : List (List ℕ)) (count : ℕ) → IsSilentVerdictOf subject Any texts (verdicts.Accepted count) → (text : List ℕ) → Contains texts text →
          (heading : H) → subject.Reads text heading → IsRefuted heading
      accepted_of [] count verdict text there heading is = absurd (in_none text there)
      accepted_of (first ∷ texts) count (inl (other, wrong)) text there heading is = absurd cc
      accepted_of (first ∷ texts) count (inr (same, (sections, last, line, rest, leads, stopped))) text there heading is = elim (in_cases first text texts there) [
        | inl here ↦ absurd (no_header text heading is (let e : text ≡ subject.header = cc in e))
        | inr behind ↦ led_to first_place 2 texts sections last line
            (subst (λ (r : List (List ℕ)). LeadsTo subject Any first_place 2 texts sections last line r) (stopped_at last line rest count stopped).0 leads) text behind heading is
      ]

      pub accepted_refutes : (bytes : List ℕ) (verdict : SilentVerdict) → IsSilentVerdict subject bytes verdict → (count : ℕ) → verdict ≡ verdicts.Accepted count →
          (text : List ℕ) → Contains (lines_in bytes) text → (heading : H) → subject.Reads text heading → IsRefuted heading
      accepted_refutes bytes verdict is count accepted = accepted_of (lines_in bytes) count (subst (λ (v : SilentVerdict). IsSilentVerdictOf subject Any (lines_in bytes) v) accepted is)
