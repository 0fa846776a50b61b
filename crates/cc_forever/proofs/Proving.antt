-- What a fair run shows of horizons: none that it tells of has a history, and where its induction holds none has, without an end.
use Rattle.std.proofs.Common.{◌≡◌, ℕ, ◌+◌, ◌<◌, ◌≤◌, List, [], ◌∷◌, length, Option, Some, None, inl, inr, refl, subst, arith, length-append}
use Rattle.std.specs.Prelude.{IfSome, IsSome}
use Rattle.std.proofs.lemmas.Bool.{cases_lt}
use Rattle.cc_defs.specs.Description.{Description}
use Rattle.cc_defs.specs.Resolved.{Query}
use Rattle.cc_defs.specs.Runs.{HasNone, Section, optional, range_of}
use Rattle.cc_forever.specs.ForeverRuns.{FairRunsProveNever, FairRunsTellTheFirst, ForeverEnding, ForeverRun, HaveFailed, IsFairForever, IsInReach, MayEndForever, Proved, Refutes, bases, steps_failed}
use Rattle.cc_forever.proofs.Giving.{range_is}
use Rattle.cc_forever.proofs.Searching.{none_under}
use Rattle.cc_induction.specs.Induction.{InductionHolds}
use Rattle.cc_silent.specs.declared.forever.ForeverHeading.TheVariants as headings
use Rattle.cc_theory.specs.Theories.{LawsGiveRules}

module _ (d : Description) (q : Query) (budget : ℕ) where
  abbrev low : ℕ
  low = (range_of q).0

  none_failed : (before : ℕ) (sections : List Section) → HaveFailed d q budget before sections → (horizon : ℕ) → low + before ≤ horizon →
      horizon < low + before + length sections → HasNone d q horizon
  none_failed before [] have horizon least less = absurd (omega arith)
  none_failed before (section ∷ sections) (refuted, within, some, have) horizon least less = elim (cases_lt (low + before) horizon) [
    | inl later ↦ none_failed (before + 1) sections have horizon (omega arith) (omega arith)
    | inr here ↦ subst (HasNone d q) (let e : low + before ≡ horizon = omega arith in e) (none_under d q budget (headings.Horizon (low + before)) section refuted)
  ]

  none_next : (failed : ℕ) (next : Option Section) → IfSome next (λ section. IsInReach q failed × Refutes d q budget (headings.Horizon (low + failed)) section) →
      ((horizon : ℕ) → low ≤ horizon → horizon < low + failed → HasNone d q horizon) →
      (horizon : ℕ) → low ≤ horizon → horizon < low + (failed + length (optional next)) → HasNone d q horizon
  none_next failed None is none horizon least less = none horizon least (omega arith)
  none_next failed (Some section) (reach, refuted) none horizon least less = elim (cases_lt horizon (low + failed)) [
    | inl before ↦ none horizon least before
    | inr here ↦ subst (HasNone d q) (let e : low + failed ≡ horizon = omega arith in e) (none_under d q budget (headings.Horizon (low + failed)) section refuted)
  ]

  pub none_told : (run : ForeverRun) → IsFairForever d q budget run → (horizon : ℕ) → low ≤ horizon → horizon < low + length (bases run) → HasNone d q horizon
  none_told run fair horizon least less =
      let all = length-append run.failed (optional run.next) in
      none_next (steps_failed run) run.next fair.next
      (λ h first last. none_failed 0 run.failed fair.failed h (omega arith) (omega arith)) horizon least (omega arith)

  -- how the run ended
  pub proved_by : (run : ForeverRun) → IsFairForever d q budget run → (section : Section) → run.ending ≡ Some (Proved section) →
      IsSome run.next × Refutes d q budget (headings.Steps (steps_failed run + 1)) section
  proved_by run fair section is = subst (λ (o : Option ForeverEnding). IfSome o (MayEndForever d q budget run)) is fair.ending

pub tell_the_first : FairRunsTellTheFirst
tell_the_first = none_told

pub one_base : (next : Option Section) → IsSome next → length (optional next) ≡ 1
one_base None is = absurd cc
one_base (Some section) is = refl

pub prove_never : InductionHolds → LawsGiveRules → FairRunsProveNever
prove_never holds rules signature laws query d q budget run laws_fit laws_are stands asked fair section ends =
    let well = ((rules signature laws laws_fit 0).theory d laws_are).well in
    let range = range_is query d q stands in
    let low = range.0 in
    let count = steps_failed run + 1 in
    let (next, refuted) = proved_by d q budget run fair section ends in
    let all = length-append run.failed (optional run.next) in
    let one = one_base run.next next in
    holds d well signature q query laws_are.signature_is stands asked count (omega arith)
    (λ horizon least less. none_told d q budget run fair horizon (omega arith) (omega arith))
    (none_under d q budget (headings.Steps count) section refuted)
