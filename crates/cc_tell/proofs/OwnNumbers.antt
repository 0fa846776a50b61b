-- The number of the next clause behind one event more.
use Rattle.std.proofs.Common.{◌≡◌, ℕ, Bool, List, [], ◌∷◌, ◌++◌, Result, Ok, Err, refl, sym, ap, subst, ◌∙◌}
use Rattle.std.specs.Prelude.{IfOk, IsNone, OnOk}
use Rattle.std.proofs.lemmas.Grind.{flat_map-append}
use Rattle.cc_defs.specs.declared.event.Event.{Event}
use Rattle.cc_defs.specs.declared.event.Event.TheVariants as events
use Rattle.cc_defs.specs.declared.event.Told.{Told}
use Rattle.cc_defs.specs.declared.log.LogLine.{LogLine}
use Rattle.cc_defs.specs.declared.log.Version.{Version}
use Rattle.cc_defs.specs.Events.{line_told}
use Rattle.cc_defs.specs.LogVersions.{own_behind}
use Rattle.cc_lists.specs.Subjects.{lines_of, with_row}
use Rattle.cc_tell.specs.declared.status.Stop.{Stop}
use Rattle.cc_tell.specs.declared.telling.Teller.{Teller}
use Rattle.cc_tell.specs.declared.telling.Teller.TheVariants as tellers
use Rattle.cc_tell.specs.EventTexts.{own_after}
use Rattle.cc_tell.specs.Statuses.{status_told}
use Rattle.cc_tell.specs.Tellers.{IsCounted, KeepsUp}

pub lines_both : (front more : List Told) → lines_of (front ++ more) ≡ lines_of front ++ lines_of more
lines_both front more = flat_map-append (λ (one : Told). line_told one.event) front more

pub own_both : (counts : Bool → ℕ → ℕ) (own : ℕ) (a b : List LogLine) → own_after counts own (a ++ b) ≡ own_after counts (own_after counts own a) b
own_both counts own [] b = refl
own_both counts own (line ∷ a) b = own_both counts (own_behind counts own line) a b

-- the number behind one event more
one_told : (event : Event) (row : List ℕ) → line_told event ≡ lines_of (with_row event row ∷ [])
one_told (events.Log line) row = refl
one_told (events.NoHistory horizon) row = refl
one_told (events.History horizon number) row = refl
one_told (events.NoConditions horizon) row = refl
one_told (events.Holds horizon) row = refl
one_told (events.Counterexample horizon) row = refl
one_told (events.Ended ending) row = refl

own_more : (counts : Bool → ℕ → ℕ) (own after : ℕ) (before : List Told) (event : Event) (row : List ℕ) → own ≡ own_after counts 1 (lines_of before) →
    after ≡ own_after counts own (line_told event) → after ≡ own_after counts 1 (lines_of (before ++ with_row event row ∷ []))
own_more counts own after before event row keeps number =
    number ∙ (ap (λ (n : ℕ). own_after counts n (line_told event)) keeps
    ∙ (sym (own_both counts 1 (lines_of before) (line_told event))
    ∙ ap (λ (l : List LogLine). own_after counts 1 l) (ap (λ (l : List LogLine). lines_of before ++ l) (one_told event row) ∙ sym (lines_both before (with_row event row ∷ [])))))

-- what a teller keeps that tells one by one
pub numbered_keeps : {X : Type 0} (r : Result X Stop) (teller : Teller) (version : Version) (own after axioms : ℕ) (event : Event) (row : List ℕ) →
    teller ≡ tellers.OneByOne version own → OnOk r ((counts : Bool → ℕ → ℕ) → IsCounted counts event axioms → after ≡ own_after counts own (line_told event)) →
    IfOk r (λ _. (counts : Bool → ℕ → ℕ) (before : List Told) → IsCounted counts event axioms → KeepsUp counts teller before → IsNone (status_told event) →
    after ≡ own_after counts 1 (lines_of (before ++ with_row event row ∷ [])))
numbered_keeps (Ok v) teller version own after axioms event row is number = λ counts before counted keeps goes.
    own_more counts own after before event row (subst (λ (t : Teller). KeepsUp counts t before) is keeps) (number counts counted)
numbered_keeps (Err e) teller version own after axioms event row is number = tt
