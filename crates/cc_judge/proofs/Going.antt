-- The sections of a log one after another.
use Rattle.std.proofs.Common.{◌≡◌, ◌∙◌, ℕ, ◌-◌, ◌<◌, ◌≤◌, inl, inr, false, suc, List, [], ◌∷◌, Option, Some, None, Result, Ok, Err, refl, sym, subst, arith}
use Rattle.std.specs.Prelude.{Contains, IfErr, IfOk}
use Rattle.cc_clauses.specs.RowsOf.{IsRowOf}
use Rattle.cc_defs.specs.declared.lists.Key.{Key}
use Rattle.cc_defs.specs.declared.log.Cause.{Cause}
use Rattle.cc_defs.specs.declared.log.LogVerdict.{LogVerdict}
use Rattle.cc_defs.specs.declared.log.LogVerdict.TheVariants as verdicts
use Rattle.cc_defs.specs.declared.refusal.Fault.{Fault}
use Rattle.cc_defs.specs.declared.refusal.Fault.TheVariants as faults
use Rattle.cc_defs.specs.declared.refusal.Refusal.{Refusal}
use Rattle.cc_defs.specs.Description.{Description}
use Rattle.cc_defs.specs.Logs.{SectionText, Standing, IsVerdict, at_first}
use Rattle.cc_defs.specs.Resolved.{Query}
use Rattle.cc_defs.specs.Sections.{Axioms}
use Rattle.cc_check.specs.Laws.{SectionsGiveVerdicts}
use Rattle.cc_check.specs.declared.sections.Section.{Section}
use Rattle.cc_check.specs.SectionTexts.{SectionsAhead, AreAhead, IsAheadBehind, IsTextOf}
use Rattle.cc_check.specs.Splits.{Parts, IsSplit}
use Rattle.cc_judge.specs.declared.standing.Next.TheVariants as nexts
use Rattle.cc_judge.specs.declared.standing.Standing.{Standing as Held}
use Rattle.cc_judge.specs.Judging.{AreJudgedWithin, BlocksHistories, IsBlockedIn, IsJudgeFault, IsVerdictWithin, ReachesLimit}
use Rattle.cc_judge.specs.Single.{BlocksAll}
use Rattle.cc_judge.specs.Standings.{Scope, AreAllDenied, AreFew, AreFewIn, IsClosedAt, IsDeniedIn, IsEarly, IsEarlyIn, IsFaultOn, IsForward, IsJudgedTo, IsPassed, IsSectionFault, IsVerdictOn, scope_of, scope_over, seen}
use Rattle.cc_judge.proofs.Counting.{AreLeft, early, has_sections, left_behind}
use Rattle.cc_judge.proofs.Within.{judged_of_within}

-- What is found of the sections that are left is found of all, and each row of a horizon that is done with is blocked.
pub record ArePassed (scope : Scope) (sections : List SectionText) (standing : Standing) (left : List SectionText) : Type 0 where
  pub within : (verdict : LogVerdict) → AreJudgedWithin scope.subject scope.limit scope.Are standing left verdict →
      AreJudgedWithin scope.subject scope.limit scope.Are (at_first scope.subject) sections verdict
  pub limited : (refusal : Refusal) → ReachesLimit scope.subject scope.limit standing left refusal →
      ReachesLimit scope.subject scope.limit (at_first scope.subject) sections refusal
  pub denied : (horizon : ℕ) (row : List ℕ) → scope.subject.first ≤ horizon → horizon < standing.horizon → scope.IsAt horizon row →
      IsDeniedIn sections horizon row

-- ---- the steps of the loop

module _ (scope : Scope) (sections : List SectionText) where
  pub passed_more : (standing next : Standing) (section : SectionText) (left : List SectionText) → Contains sections section → ArePassed scope sections standing (section ∷ left) →
      IsPassed scope standing section next → ArePassed scope sections next left
  passed_more standing next section left there so_far passes = record {
    within = λ verdict h. so_far.within verdict (passes.within left verdict h);
    limited = λ refusal h. so_far.limited refusal (passes.limited left refusal h);
    denied = λ horizon row low high one. elim (passes.denied horizon row high one) [
      | inl before ↦ so_far.denied horizon row low before one
      | inr here ↦ (section, there, here)
    ];
  }

  pub passed_wrong : (standing : Standing) (section : SectionText) (left : List SectionText) (line : ℕ) (reason : Cause) → ArePassed scope sections standing (section ∷ left) →
      IsJudgedTo scope standing section (nexts.Wrong line reason) → IsVerdictOn scope sections (verdicts.Refused line reason)
  passed_wrong standing section left line reason so_far wrong = (so_far.within (verdicts.Refused line reason) (wrong left), tt)

  pub passed_fault : (standing : Standing) (section : SectionText) (left : List SectionText) (fault : Fault) → ArePassed scope sections standing (section ∷ left) →
      IsSectionFault scope standing section fault → IsFaultOn scope sections fault
  passed_fault standing section left (faults.Refused refusal) so_far is = so_far.limited refusal (is left)
  passed_fault standing section left faults.OutOfMemory so_far is = tt

  closed_denied : (standing : Standing) (first : ℕ) (verdict : LogVerdict) → first ≡ scope.subject.first → ArePassed scope sections standing [] → first ≤ standing.horizon →
      IsClosedAt first standing verdict → AreAllDenied scope sections verdict
  closed_denied standing first (verdicts.Refused line reason) first_same so_far most closed = tt
  closed_denied standing first (verdicts.Accepted from to blocked) first_same so_far most (inl (middle, apart, is)) =
      let from_is : from ≡ first = cc in
      let to_is : to ≡ standing.horizon - 1 = cc in
      (from_is ∙ first_same, λ horizon row low high one. so_far.denied horizon row (omega arith) (omega arith) one)
  closed_denied standing first (verdicts.Accepted from to blocked) first_same so_far most (inr (middle, is)) = absurd cc

  pub passed_all : (standing : Standing) (first : ℕ) (verdict : LogVerdict) → first ≡ scope.subject.first → first ≤ standing.horizon → ArePassed scope sections standing [] →
      IsClosedAt first standing verdict → IsVerdictOn scope sections verdict
  passed_all standing first verdict first_same most so_far closed = (
    so_far.within verdict (subst (λ (n : ℕ). IsClosedAt n standing verdict) first_same closed),
    closed_denied standing first verdict first_same so_far most closed,
  )

-- ---- the loop, over all that a call may be for, text by text

pub record SoFarOf (I : Type 0) (scope : I → Scope) (start : ℕ) (sections left : List SectionText) (held : Held) : Type 0 where
  pub few : AreLeft left held.blocked
  pub first : start ≤ held.horizon
  pub there : (section : SectionText) → Contains left section → Contains sections section
  pub passed : (i : I) → ArePassed (scope i) sections (seen held) left

contains_first : (x : SectionText) (xs : List SectionText) → Contains (x ∷ xs) x
contains_first x xs = (0, omega arith, refl)

contains_more : (x y : SectionText) (xs : List SectionText) → Contains xs y → Contains (x ∷ xs) y
contains_more x y xs (k, within, at) = (suc k, omega arith, at)

module _ (I : Type 0) (scope : I → Scope) (start : ℕ) (sections : List SectionText) where
  module _ (held : Held) (section : SectionText) (left : List SectionText) (so_far : SoFarOf I scope start sections (section ∷ left) held) where
    early_of : IsEarly held.blocked section
    early_of = early section left held.blocked so_far.few

    went_on_of : (next : Held) → IsForward (seen held) section (nexts.Goes next) → ((i : I) → IsJudgedTo (scope i) (seen held) section (nexts.Goes next)) →
        SoFarOf I scope start sections left next
    went_on_of next goes judged =
        let higher = goes.0 in let low = so_far.first in
        record {
          few = left_behind section left held.blocked next.blocked so_far.few goes.1;
          first = omega arith;
          there = λ other is. so_far.there other (contains_more section other left is);
          passed = λ i. passed_more (scope i) sections (seen held) (seen next) section left (so_far.there section (contains_first section left)) (so_far.passed i) (judged i);
        }

    went_wrong_of : (line : ℕ) (reason : Cause) (i : I) → IsJudgedTo (scope i) (seen held) section (nexts.Wrong line reason) → IsVerdictOn (scope i) sections (verdicts.Refused line reason)
    went_wrong_of line reason i wrong = passed_wrong (scope i) sections (seen held) section left line reason (so_far.passed i) wrong

    went_past_of : (fault : Fault) (i : I) → IsSectionFault (scope i) (seen held) section fault → IsFaultOn (scope i) sections fault
    went_past_of fault i is_fault = passed_fault (scope i) sections (seen held) section left fault (so_far.passed i) is_fault

-- ---- the same by what is ahead in the bytes

-- It is so of all sections that were ahead at first.
pub record SoFar (I : Type 0) (scope : I → Scope) (start : ℕ) (begun ahead : SectionsAhead) (held : Held) : Type 0 where
  pub first : start ≤ held.horizon
  pub passed : (all : List SectionText) → AreAhead begun all → AreFew all → (left : List SectionText) × AreAhead ahead left × SoFarOf I scope start all left held

module _ (I : Type 0) (scope : I → Scope) (start : ℕ) (begun : SectionsAhead) where
  module _ (ahead : SectionsAhead) (held : Held) (so_far : SoFar I scope start begun ahead held) where
    module _ (section : Section) (behind : SectionsAhead)
        (next_is : (all : List SectionText) → AreAhead ahead all → IsAheadBehind all (Some section) behind) where
      -- the text of the section, and what is left behind it
      record Here (all : List SectionText) : Type 0 where
        pub text : SectionText
        pub others : List SectionText
        pub is : IsTextOf section text
        pub behind_are : AreAhead behind others
        pub so_far_of : SoFarOf I scope start all (text ∷ others) held

      here : (all : List SectionText) → AreAhead begun all → AreFew all → Here all
      here all are few =
          let (left, ahead_are, so) = so_far.passed all are few in
          let (text, others, same, is, behind_are) = next_is left ahead_are in
          record { text = text; others = others; is = is; behind_are = behind_are; so_far_of = subst (λ (l : List SectionText). SoFarOf I scope start all l held) same so }

      pub section_early : AreFewIn begun → IsEarlyIn held.blocked section
      section_early (all, are, few) =
          let h = here all are few in
          (h.text, h.is, early_of I scope start all held h.text h.others h.so_far_of)

      pub went_on : AreFewIn begun → (next : Held) →
          ((text : SectionText) → IsTextOf section text → IsEarly held.blocked text → IsForward (seen held) text (nexts.Goes next)) →
          ((i : I) (text : SectionText) → IsTextOf section text → IsJudgedTo (scope i) (seen held) text (nexts.Goes next)) → SoFar I scope start begun behind next
      went_on (some, some_are, some_few) next goes judged =
          let passed : (all : List SectionText) → AreAhead begun all → AreFew all → (left : List SectionText) × AreAhead behind left × SoFarOf I scope start all left next =
          λ all are few. (let h = here all are few in (
            h.others,
            h.behind_are,
            went_on_of I scope start all held h.text h.others h.so_far_of next
                (goes h.text h.is (early_of I scope start all held h.text h.others h.so_far_of)) (λ i. judged i h.text h.is),
          )) in
          let (left, left_are, so) = passed some some_are some_few in
          record { first = so.first; passed = passed }

      module _ (i : I) (all : List SectionText) (are : AreAhead begun all) (few : AreFew all) where
        pub went_wrong : (line : ℕ) (reason : Cause) → ((text : SectionText) → IsTextOf section text → IsJudgedTo (scope i) (seen held) text (nexts.Wrong line reason)) →
            IsVerdictOn (scope i) all (verdicts.Refused line reason)
        went_wrong line reason wrong =
            let h = here all are few in
            went_wrong_of I scope start all held h.text h.others h.so_far_of line reason i (wrong h.text h.is)

        pub went_past : (fault : Fault) → ((text : SectionText) → IsTextOf section text → IsSectionFault (scope i) (seen held) text fault) → IsFaultOn (scope i) all fault
        went_past fault is_fault =
            let h = here all are few in
            went_past_of I scope start all held h.text h.others h.so_far_of fault i (is_fault h.text h.is)

    pub came_to_end : (behind : SectionsAhead) → ((all : List SectionText) → AreAhead ahead all → IsAheadBehind all None behind) → (verdict : LogVerdict) →
        IsClosedAt start (seen held) verdict → (i : I) → start ≡ (scope i).subject.first → (all : List SectionText) → AreAhead begun all → AreFew all →
        IsVerdictOn (scope i) all verdict
    came_to_end behind none verdict closed i starts all are few =
        let (left, ahead_are, so) = so_far.passed all are few in
        passed_all (scope i) all (seen held) start verdict starts so.first
        (subst (λ (l : List SectionText). ArePassed (scope i) all (seen held) l) (none left ahead_are) (so.passed i)) closed

-- where a log begins, by its first horizon
abbrev pub begun_at : ℕ → Standing
begun_at first = record { middle = false; horizon = first; blocked = 0; line = 2 }

-- nothing is passed there
pub begun_so : (I : Type 0) (scope : I → Scope) (start : ℕ) (begun : SectionsAhead) (held : Held) → start ≤ held.horizon → held.blocked ≤ 2 →
    ((i : I) → seen held ≡ at_first (scope i).subject) → SoFar I scope start begun begun held
begun_so I scope start begun held low few starts = record {
  first = low;
  passed = λ all are all_few. (
    all,
    are,
    record {
      few = few_left all all_few;
      first = low;
      there = λ section is. is;
      passed = λ i. subst (λ (s : Standing). ArePassed (scope i) all s all) (sym (starts i)) (none_passed (scope i) all);
    },
  );
}
  where
    few_left : (all : List SectionText) → AreFew all → AreLeft all held.blocked
    few_left all (version, texts, are, most) = record { version = version; line = 2; texts = texts; are = are; most = omega arith; few = few }

    none_passed : (one : Scope) (all : List SectionText) → ArePassed one all (at_first one.subject) all
    none_passed one all = record {
      within = λ verdict h. h;
      limited = λ refusal h. h;
      denied = λ horizon row low_one high is. absurd (omega arith);
    }

-- ---- the whole log

module _ (scope : Scope) (bytes : List ℕ) (sections : List SectionText) (split : IsSplit bytes (Parts sections)) where
  pub ok_verdict : {E : Type 0} → SectionsGiveVerdicts → (result : Result LogVerdict E) → IfOk result (IsVerdictOn scope sections) → IfOk result (IsVerdict scope.subject bytes)
  ok_verdict law (Ok verdict) is = law scope.subject bytes sections verdict split (judged_of_within scope.subject scope.limit scope.Are (at_first scope.subject) sections verdict is.0)
  ok_verdict law (Err fault) is = tt

  blocked_in : (horizon : ℕ) (row : List ℕ) → IsDeniedIn sections horizon row → IsBlockedIn bytes horizon row
  blocked_in horizon row (section, there, denied) =
      record { sections = sections; are = has_sections bytes sections split; section = section; there = there; horizon_is = denied.0; blocked = denied.1 }

module _ (d : Description) (q : Query) (key : Option Key) (bytes : List ℕ) (sections : List SectionText) (split : IsSplit bytes (Parts sections)) where
  pub ok_within : (result : Result LogVerdict Fault) → IfOk result (IsVerdictOn (scope_of d q key) sections) → IfOk result (IsVerdictWithin d q key bytes)
  ok_within (Ok verdict) is = inr (sections, has_sections bytes sections split, is.0)
  ok_within (Err fault) is = tt

  pub ok_blocks : (result : Result LogVerdict Fault) → IfOk result (IsVerdictOn (scope_of d q key) sections) → IfOk result (BlocksHistories d q key bytes)
  ok_blocks (Ok (verdicts.Accepted first last blocked)) is = λ horizon row low high history.
      blocked_in (scope_of d q key) bytes sections split horizon row (is.1.1 horizon row low high history)
  ok_blocks (Ok (verdicts.Refused line reason)) is = tt
  ok_blocks (Err fault) is = tt

  whole_fault : (fault : Fault) → IsFaultOn (scope_of d q key) sections fault → IsJudgeFault d q key bytes fault
  whole_fault (faults.Refused refusal) is = (sections, has_sections bytes sections split, is)
  whole_fault faults.OutOfMemory is = tt

  pub err_fault : (result : Result LogVerdict Fault) → IfErr result (IsFaultOn (scope_of d q key) sections) → IfErr result (IsJudgeFault d q key bytes)
  err_fault (Ok verdict) is = tt
  err_fault (Err fault) is = whole_fault fault is

pub ok_all : {E : Type 0} (axioms : Axioms) (bytes : List ℕ) (sections : List SectionText) → IsSplit bytes (Parts sections) → (result : Result LogVerdict E) →
    IfOk result (IsVerdictOn (scope_over axioms) sections) → IfOk result (BlocksAll (IsRowOf axioms.sizes axioms.clauses) bytes)
ok_all axioms bytes sections split (Ok (verdicts.Accepted first last blocked)) is =
    let start = is.1.0 in λ row one. blocked_in (scope_over axioms) bytes sections split 0 row (is.1.1 0 row (omega arith) (omega arith) one)
ok_all axioms bytes sections split (Ok (verdicts.Refused line reason)) is = tt
ok_all axioms bytes sections split (Err fault) is = tt
