-- The line of an event that comes can be written in version 2, and the section whose heading it is has few axioms.
use Rattle.std.proofs.Common.{◌≡◌, ℕ, ◌≤◌, Bool, not, List, [], ◌∷◌, ◌++◌, sym, subst}
use Rattle.std.specs.Prelude.{length}
use Rattle.cc_defs.specs.declared.event.Event.{Event}
use Rattle.cc_defs.specs.declared.event.Event.TheVariants as events
use Rattle.cc_defs.specs.declared.event.Told.{Told}
use Rattle.cc_defs.specs.declared.log.LogLine.{LogLine}
use Rattle.cc_defs.specs.declared.log.LogLine.TheVariants as lines
use Rattle.cc_defs.specs.ClauseLists.{clause_list}
use Rattle.cc_defs.specs.Description.{Description}
use Rattle.cc_defs.specs.Limits.{most_clauses}
use Rattle.cc_defs.specs.LogVersions.{own_behind}
use Rattle.cc_defs.specs.Resolved.{Query}
use Rattle.cc_defs.specs.Runs.{Ask, AreFair, axioms_of, events_of, first_horizon}
use Rattle.cc_lists.specs.Subjects.{lines_of, with_row}
use Rattle.cc_query.specs.Sessions.{After, IsOpened, IsSame, IsSessionOf, OpensWithin, SessionView, StandsOpened}
use Rattle.cc_list.specs.Telling.{HasFewAxioms, HasGoodLines, counts_of}
use Rattle.cc_tell.specs.declared.telling.Teller.{Teller}
use Rattle.cc_tell.specs.declared.telling.Teller.TheVariants as tellers
use Rattle.cc_tell.specs.EventTexts.{own_after}
use Rattle.cc_tell.specs.Tellers.{IsCounted, IsWritableBy, IsWritableEvent, KeepsUp}
use Rattle.cc_theory.specs.Theories.{rules_refusal}
use Rattle.cc_tell.proofs.OwnNumbers.{lines_both}
use Rattle.cc_list.proofs.NumberedRuns.{run_writable}
use Rattle.cc_list.proofs.NumberedSteps.{AreWritable, section_low}
use Rattle.cc_list.proofs.Worth.{IsGoodEvent, next_good}

pub few_axioms : (d : Description) (q : Query) (given : List Told) (session next : SessionView) (event : Event) → IsSame session next → IsSessionOf session d q →
    OpensWithin session event → After d q next given → HasFewAxioms next event
few_axioms d q given session next event same is opened after = (
  d,
  q,
  given,
  after,
  λ conditions horizon heads.
      subst (λ (ask : Ask). length ((axioms_of d q ask.after conditions horizon).clauses) ≤ most_clauses) (sym same.ask)
      (section_low (rules_refusal d horizon) (clause_list d q horizon (not conditions) session.ask.after) (opened d q is conditions horizon heads)).1,
)

-- how many axioms a session says that it has
abbrev Says : SessionView → ℕ → Type 0
Says session axioms = (d : Description) (q : Query) (given : List Told) (conditions : Bool) (horizon : ℕ) → After d q session given → IsOpened session conditions horizon →
    axioms ≡ length ((axioms_of d q session.ask.after conditions horizon).clauses)

pub axioms_counted : (session : SessionView) (event : Event) (axioms : ℕ) → StandsOpened session event → Says session axioms →
    (d : Description) (q : Query) (given : List Told) → After d q session given → IsCounted (counts_of d q session.ask.after) event axioms
axioms_counted session event axioms opened says d q given after = λ conditions horizon heads. says d q given conditions horizon after (opened conditions horizon heads)

pub axioms_low : (session : SessionView) (event : Event) (axioms : ℕ) (conditions : Bool) (horizon : ℕ) → StandsOpened session event → Says session axioms → HasFewAxioms session event →
    event ≡ events.Log (lines.Section conditions horizon) → axioms ≤ most_clauses
axioms_low session event axioms conditions horizon opened says (d, q, given, after, few) heads =
    subst (λ (n : ℕ). n ≤ most_clauses) (sym (says d q given conditions horizon after (opened conditions horizon heads))) (few conditions horizon heads)

-- ---- the last of the lines

writable_behind : (counts : Bool → ℕ → ℕ) (own : ℕ) (a b : List LogLine) → AreWritable counts own (a ++ b) → AreWritable counts (own_after counts own a) b
writable_behind counts own [] b can = can
writable_behind counts own (line ∷ a) b can = writable_behind counts (own_behind counts own line) a b can.1

one_writable : (counts : Bool → ℕ → ℕ) (own : ℕ) (event : Event) (row : List ℕ) → AreWritable counts own (lines_of (with_row event row ∷ [])) → IsWritableEvent own event
one_writable counts own (events.Log line) row can = can.0
one_writable counts own (events.NoHistory horizon) row can = tt
one_writable counts own (events.History horizon number) row can = tt
one_writable counts own (events.NoConditions horizon) row can = tt
one_writable counts own (events.Holds horizon) row can = tt
one_writable counts own (events.Counterexample horizon) row can = tt
one_writable counts own (events.Ended ending) row can = tt

module _ (d : Description) (q : Query) (ask : Ask) (budget : ask.budget ≤ 2000000) (given : List Told) (event : Event) (row : List ℕ) where
  last_writable : HasGoodLines d q ask.after given → IsGoodEvent d q ask.after event → AreFair d q ask (given ++ with_row event row ∷ []) →
      IsWritableEvent (own_after (counts_of d q ask.after) 1 (lines_of given)) event
  last_writable lines good (run, fair, is) =
      one_writable counts (own_after counts 1 (lines_of given)) event row
      (writable_behind counts 1 (lines_of given) (lines_of last)
      (subst (λ (l : List LogLine). AreWritable counts 1 l) (lines_both given last) (subst (λ (l : List Told). AreWritable counts 1 (lines_of l)) (sym is) all)))
    where
      counts : Bool → ℕ → ℕ
      counts = counts_of d q ask.after

      last : List Told
      last = with_row event row ∷ []

      all : AreWritable counts 1 (lines_of (events_of (first_horizon q ask.after) run))
      all = (run_writable d q ask budget run fair (subst (λ (l : List Told). HasGoodLines d q ask.after l) is (next_good d q ask.after given event row lines good))).0

  pub event_writable : (teller : Teller) → HasGoodLines d q ask.after given → IsGoodEvent d q ask.after event → AreFair d q ask (given ++ with_row event row ∷ []) →
      KeepsUp (counts_of d q ask.after) teller given → IsWritableBy teller event
  event_writable (tellers.OneByOne version own) lines good fair keeps = subst (λ (n : ℕ). IsWritableEvent n event) (sym keeps) (last_writable lines good fair)
  event_writable (tellers.Summed size outcome) lines good fair keeps = tt
