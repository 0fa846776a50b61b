-- The lines of the log of a search: formed, with good axioms at their headings, and within the limits.
use Rattle.std.proofs.Common.{◌≡◌, ℕ, ◌≤◌, ◌⊎◌, Bool, not, List, [], ◌∷◌, ◌++◌, map, Option, None, refl, sym, ap, subst, arith, inl, inr}
use Rattle.std.specs.Prelude.{Contains}
use Rattle.std.specs.List.{AllByRecursion}
use Rattle.std.proofs.lemmas.List.{map-append}
use Rattle.std.proofs.lemmas.List.Elements.{Contains-append_left, Contains-append_right, Contains-append_cases, Contains-push_cases}
use Rattle.cc_defs.specs.declared.event.Event.{Event}
use Rattle.cc_defs.specs.declared.event.Event.TheVariants as events
use Rattle.cc_defs.specs.declared.event.Told.{Told}
use Rattle.cc_defs.specs.declared.lists.Key.{Key}
use Rattle.cc_defs.specs.declared.log.LogLine.{LogLine}
use Rattle.cc_defs.specs.declared.log.LogLine.TheVariants as lines
use Rattle.cc_defs.specs.Description.{Description}
use Rattle.cc_defs.specs.Limits.{most_histories}
use Rattle.cc_defs.specs.LogTexts.{IsFormed}
use Rattle.cc_defs.specs.Resolved.{Query}
use Rattle.cc_defs.specs.Runs.{Ask, axioms_of}
use Rattle.cc_lists.specs.Horizons.{refusal_at}
use Rattle.cc_lists.specs.Subjects.{AreGoodAxioms, IsFewEvent, IsShortEvent, lines_of, with_row}
use Rattle.cc_list.specs.Searching.{KeepsLimits}
use Rattle.cc_list.specs.Telling.{HasGoodLines, task_of}
use Rattle.cc_tell.proofs.OwnNumbers.{lines_both}

-- ---- lines behind others

pub all_front : {A : Type 0} (P : A → Type 0) (front more : List A) → AllByRecursion P (front ++ more) → AllByRecursion P front
all_front P [] more all = tt
all_front P (x ∷ front) more all = (all.0, all_front P front more all.1)

all_behind : {A : Type 0} (P : A → Type 0) (front more : List A) → AllByRecursion P (front ++ more) → AllByRecursion P more
all_behind P [] more all = all
all_behind P (x ∷ front) more all = all_behind P front more all.1

pub all_both : {A : Type 0} (P : A → Type 0) (front more : List A) → AllByRecursion P front → AllByRecursion P more → AllByRecursion P (front ++ more)
all_both P [] more all rest = rest
all_both P (x ∷ front) more all rest = (all.0, all_both P front more all.1 rest)

none_in : {A : Type 0} {B : Type 0} (x : A) → Contains [] x → B
none_in x there = let low = there.1 in absurd (omega arith)

-- ---- headings, and histories, among what is told

-- each section whose heading is among these lines is so
abbrev AtHeadings : (Bool → ℕ → Type 0) → List LogLine → Type 0
AtHeadings P all = (conditions : Bool) (horizon : ℕ) → Contains all (lines.Section conditions horizon) → P conditions horizon

-- where an event is a heading, its section is so
abbrev AtHeading : (Bool → ℕ → Type 0) → Event → Type 0
AtHeading P event = (conditions : Bool) (horizon : ℕ) → event ≡ events.Log (lines.Section conditions horizon) → P conditions horizon

module _ (P : Bool → ℕ → Type 0) where
  no_heading : (all : List LogLine) → all ≡ [] → AtHeadings P all
  no_heading all is = subst (λ (l : List LogLine). AtHeadings P l) (sym is) (λ conditions horizon there. none_in (lines.Section conditions horizon) there)

  headings_front : (front more : List Told) → AtHeadings P (lines_of (front ++ more)) → AtHeadings P (lines_of front)
  headings_front front more all = λ conditions horizon there.
      subst (λ (l : List LogLine). AtHeadings P l) (lines_both front more) all conditions horizon
      (Contains-append_left (lines_of front) (lines_of more) (lines.Section conditions horizon) there)

  headings_behind : (front more : List Told) → AtHeadings P (lines_of (front ++ more)) → AtHeadings P (lines_of more)
  headings_behind front more all = λ conditions horizon there.
      subst (λ (l : List LogLine). AtHeadings P l) (lines_both front more) all conditions horizon
      (Contains-append_right (lines_of front) (lines_of more) (lines.Section conditions horizon) there)

  headings_both : (front more : List Told) → AtHeadings P (lines_of front) → AtHeadings P (lines_of more) → AtHeadings P (lines_of (front ++ more))
  headings_both front more one two = subst (λ (l : List LogLine). AtHeadings P l) (sym (lines_both front more))
      (λ conditions horizon there. either conditions horizon (Contains-append_cases (lines_of front) (lines_of more) (lines.Section conditions horizon) there))
    where
      either : (conditions : Bool) (horizon : ℕ) → Contains (lines_of front) (lines.Section conditions horizon) ⊎ Contains (lines_of more) (lines.Section conditions horizon) →
          P conditions horizon
      either conditions horizon (inl there) = one conditions horizon there
      either conditions horizon (inr there) = two conditions horizon there

  one_heading : (line : LogLine) → AtHeading P (events.Log line) → AtHeadings P (line ∷ [])
  one_heading line heads = λ conditions horizon there. either conditions horizon (Contains-push_cases [] line (lines.Section conditions horizon) there)
    where
      either : (conditions : Bool) (horizon : ℕ) → Contains [] (lines.Section conditions horizon) ⊎ (line ≡ lines.Section conditions horizon) → P conditions horizon
      either conditions horizon (inl there) = none_in (lines.Section conditions horizon) there
      either conditions horizon (inr is) = heads conditions horizon (ap events.Log is)

abbrev pub event_in : Told → Event
event_in one = one.event

-- no history among these events is past the number that may be told at a horizon
abbrev pub AreFew : List Event → Type 0
AreFew all = (horizon number : ℕ) → Contains all (events.History horizon number) → number ≤ most_histories

pub few_front : (front more : List Told) → AreFew (map event_in (front ++ more)) → AreFew (map event_in front)
few_front front more all = λ horizon number there.
    subst (λ (l : List Event). AreFew l) (map-append event_in front more) all horizon number
    (Contains-append_left (map event_in front) (map event_in more) (events.History horizon number) there)

few_behind : (front more : List Told) → AreFew (map event_in (front ++ more)) → AreFew (map event_in more)
few_behind front more all = λ horizon number there.
    subst (λ (l : List Event). AreFew l) (map-append event_in front more) all horizon number
    (Contains-append_right (map event_in front) (map event_in more) (events.History horizon number) there)

few_both : (front more : List Told) → AreFew (map event_in front) → AreFew (map event_in more) → AreFew (map event_in (front ++ more))
few_both front more one two = subst (λ (l : List Event). AreFew l) (sym (map-append event_in front more))
    (λ horizon number there. either horizon number (Contains-append_cases (map event_in front) (map event_in more) (events.History horizon number) there))
  where
    either : (horizon number : ℕ) → Contains (map event_in front) (events.History horizon number) ⊎ Contains (map event_in more) (events.History horizon number) →
        number ≤ most_histories
    either horizon number (inl there) = one horizon number there
    either horizon number (inr there) = two horizon number there

one_few : (event : Event) → IsFewEvent event → AreFew (event ∷ [])
one_few event few = λ horizon number there. either horizon number (Contains-push_cases [] event (events.History horizon number) there)
  where
    either : (horizon number : ℕ) → Contains [] (events.History horizon number) ⊎ (event ≡ events.History horizon number) → number ≤ most_histories
    either horizon number (inl there) = none_in (events.History horizon number) there
    either horizon number (inr is) = few horizon number is

-- the axioms of a section are good, and it was opened within the limits
abbrev IsGoodAt : Description → Query → Option Key → Bool → ℕ → Type 0
IsGoodAt d q key conditions horizon = AreGoodAxioms (axioms_of d q key conditions horizon)

abbrev IsOpenedAt : Description → Query → Option Key → Bool → ℕ → Type 0
IsOpenedAt d q key conditions horizon = refusal_at d q horizon (not conditions) key ≡ None

-- what is known of an event that comes
pub record IsGoodEvent (d : Description) (q : Query) (key : Option Key) (event : Event) : Type 0 where
  pub short : IsShortEvent event
  pub good : AtHeading (IsGoodAt d q key) event
  pub opened : AtHeading (IsOpenedAt d q key) event
  pub few : IsFewEvent event

module _ (d : Description) (q : Query) (key : Option Key) where
  -- no line was told
  silent : (events_told : List Told) → lines_of events_told ≡ [] → AreFew (map event_in events_told) → HasGoodLines d q key events_told
  silent events_told is few = record {
    formed = subst (λ (l : List LogLine). AllByRecursion IsFormed l) (sym is) tt;
    good = no_heading (IsGoodAt d q key) (lines_of events_told) is;
    opened = no_heading (IsOpenedAt d q key) (lines_of events_told) is;
    few = few;
  }

  pub no_lines : HasGoodLines d q key []
  no_lines = silent [] refl (λ horizon number there. none_in (events.History horizon number) there)

  pub front_good : (front more : List Told) → HasGoodLines d q key (front ++ more) → HasGoodLines d q key front
  front_good front more all = record {
    formed = all_front IsFormed (lines_of front) (lines_of more) (subst (λ (l : List LogLine). AllByRecursion IsFormed l) (lines_both front more) all.formed);
    good = headings_front (IsGoodAt d q key) front more all.good;
    opened = headings_front (IsOpenedAt d q key) front more all.opened;
    few = few_front front more all.few;
  }

  pub behind_good : (front more : List Told) → HasGoodLines d q key (front ++ more) → HasGoodLines d q key more
  behind_good front more all = record {
    formed = all_behind IsFormed (lines_of front) (lines_of more) (subst (λ (l : List LogLine). AllByRecursion IsFormed l) (lines_both front more) all.formed);
    good = headings_behind (IsGoodAt d q key) front more all.good;
    opened = headings_behind (IsOpenedAt d q key) front more all.opened;
    few = few_behind front more all.few;
  }

  pub more_good : (front more : List Told) → HasGoodLines d q key front → HasGoodLines d q key more → HasGoodLines d q key (front ++ more)
  more_good front more one two = record {
    formed = subst (λ (l : List LogLine). AllByRecursion IsFormed l) (sym (lines_both front more)) (all_both IsFormed (lines_of front) (lines_of more) one.formed two.formed);
    good = headings_both (IsGoodAt d q key) front more one.good two.good;
    opened = headings_both (IsOpenedAt d q key) front more one.opened two.opened;
    few = few_both front more one.few two.few;
  }

  event_good : (event : Event) (row : List ℕ) → IsGoodEvent d q key event → HasGoodLines d q key (with_row event row ∷ [])
  event_good (events.Log line) row is = record {
    formed = (is.short, tt);
    good = one_heading (IsGoodAt d q key) line is.good;
    opened = one_heading (IsOpenedAt d q key) line is.opened;
    few = one_few (events.Log line) is.few;
  }
  event_good (events.NoHistory horizon) row is = silent (with_row (events.NoHistory horizon) row ∷ []) refl (one_few (events.NoHistory horizon) is.few)
  event_good (events.History horizon number) row is = silent (with_row (events.History horizon number) row ∷ []) refl (one_few (events.History horizon number) is.few)
  event_good (events.NoConditions horizon) row is = silent (with_row (events.NoConditions horizon) row ∷ []) refl (one_few (events.NoConditions horizon) is.few)
  event_good (events.Holds horizon) row is = silent (with_row (events.Holds horizon) row ∷ []) refl (one_few (events.Holds horizon) is.few)
  event_good (events.Counterexample horizon) row is = silent (with_row (events.Counterexample horizon) row ∷ []) refl (one_few (events.Counterexample horizon) is.few)
  event_good (events.Ended ending) row is = silent (with_row (events.Ended ending) row ∷ []) refl (one_few (events.Ended ending) is.few)

  -- one event more was told
  pub next_good : (given : List Told) (event : Event) (row : List ℕ) → HasGoodLines d q key given → IsGoodEvent d q key event →
      HasGoodLines d q key (given ++ with_row event row ∷ [])
  next_good given event row so_far is = more_good given (with_row event row ∷ []) so_far (event_good event row is)

-- a search that tells these events keeps to the limits
pub keeps_limits : (d : Description) (q : Query) (ask : Ask) (events_told : List Told) → HasGoodLines d q ask.after events_told → KeepsLimits (task_of d q ask) events_told
keeps_limits d q ask events_told all = record { opened = all.opened; few = all.few; formed = all.formed }
