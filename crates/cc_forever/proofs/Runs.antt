-- The shapes of a run, and what one turn more makes of it.
use Rattle.std.proofs.Common.{◌≡◌, ◌∙◌, ℕ, suc, ◌+◌, List, [], ◌∷◌, ◌++◌, length, Option, Some, None, refl, sym, subst, ap, arith, append-nil, append_assoc, length-append}
use Rattle.std.specs.Prelude.{IsNone, IsSome}
use Rattle.cc_defs.specs.Description.{Description}
use Rattle.cc_defs.specs.Resolved.{Query}
use Rattle.cc_defs.specs.Runs.{HasSome, Section, range_of}
use Rattle.cc_forever.specs.ForeverRuns.{ForeverEnding, ForeverRun, HaveFailed, IsFairForever, IsInReach, IsLeast, MayEndForever, Refutes}
use Rattle.cc_forever.specs.ForeverTold.{ForeverTold, FailsOver, NoneAt, failed_told, forever_told}
use Rattle.cc_forever.proofs.Searching.{some_under}
use Rattle.cc_induction.specs.Induction.{step_query}
use Rattle.cc_silent.specs.ForeverLogs.{refusal_under}
use Rattle.cc_silent.specs.declared.forever.ForeverHeading.TheVariants as headings

none_is : {X : Type 0} (o : Option X) → IsNone o → o ≡ None
none_is None is = refl
none_is (Some x) is = absurd cc

pub some_is : {X : Type 0} (o : Option X) → IsSome o → (x : X) × (o ≡ Some x)
some_is None is = absurd cc
some_is (Some x) is = (x, refl)

-- ---- shapes: a horizon is looked at next, or the step

abbrev pub at_rest : List Section → Option (List ℕ) → ForeverRun
at_rest failed example = record { failed = failed; next = None; example = example; ending = None }

abbrev pub in_step : List Section → Section → Option (List ℕ) → ForeverRun
in_step failed section example = record { failed = failed; next = Some section; example = example; ending = None }

pub rest_is : (run : ForeverRun) → IsNone run.ending → IsNone run.next → run ≡ at_rest run.failed run.example
rest_is run ended next = λ i. record { failed = run.failed; next = none_is run.next next i; example = run.example; ending = none_is run.ending ended i }

pub step_is : (run : ForeverRun) → IsNone run.ending → IsSome run.next → (section : Section) × (run ≡ in_step run.failed section run.example)
step_is run ended next =
    let (section, is) = some_is run.next next in
    (section, λ i. record { failed = run.failed; next = is i; example = run.example; ending = none_is run.ending ended i })

-- ---- what is told

failed_more : (horizon steps : ℕ) (sections : List Section) (section : Section) →
    failed_told horizon steps (sections ++ section ∷ [])
    ≡ failed_told horizon steps sections ++ NoneAt (horizon + length sections) section ∷ FailsOver (steps + length sections) ∷ []
failed_more horizon steps [] section =
    let h : horizon ≡ horizon + 0 = omega arith in
    let s : steps ≡ steps + 0 = omega arith in
    λ i. NoneAt (h i) section ∷ FailsOver (s i) ∷ []
failed_more horizon steps (first ∷ sections) section =
    let h : horizon + 1 + length sections ≡ horizon + suc (length sections) = omega arith in
    let s : steps + 1 + length sections ≡ steps + suc (length sections) = omega arith in
    ap (λ (l : List ForeverTold). NoneAt horizon first ∷ FailsOver steps ∷ l) (failed_more (horizon + 1) (steps + 1) sections section
    ∙ (λ i. failed_told (horizon + 1) (steps + 1) sections ++ NoneAt (h i) section ∷ FailsOver (s i) ∷ []))

pub ends_told : {X : Type 0} (xs : List X) (x : X) → xs ++ x ∷ [] ≡ (xs ++ []) ++ x ∷ []
ends_told xs x = ap (λ l. l ++ x ∷ []) (sym (append-nil xs))

module _ (q : Query) (failed : List Section) (section : Section) where
  abbrev front : List ForeverTold
  front = failed_told (range_of q).0 1 failed

  abbrev base : ForeverTold
  base = NoneAt ((range_of q).0 + length failed) section

  pub passes_told : (example : Option (List ℕ)) → forever_told q (in_step failed section example) ≡ forever_told q (at_rest failed example) ++ base ∷ []
  passes_told example = append-nil (front ++ base ∷ []) ∙ ends_told front base ∙ ends_told (front ++ []) base

  pub fails_told : (example : Option (List ℕ)) (row : List ℕ) →
      forever_told q (at_rest (failed ++ section ∷ []) (Some row)) ≡ forever_told q (in_step failed section example) ++ FailsOver (length failed + 1) ∷ []
  fails_told example row =
      let all = failed_told (range_of q).0 1 (failed ++ section ∷ []) in
      let s : 1 + length failed ≡ length failed + 1 = omega arith in
      append-nil (all ++ []) ∙ append-nil all ∙ failed_more (range_of q).0 1 failed section
      ∙ (λ i. front ++ base ∷ FailsOver (s i) ∷ [])
      ∙ sym (append_assoc front (base ∷ []) (FailsOver (length failed + 1) ∷ []))
      ∙ ends_told (front ++ base ∷ []) (FailsOver (length failed + 1))

-- ---- runs that tell the truth

module _ (d : Description) (q : Query) (budget : ℕ) where
  abbrev HasFailed : (before : ℕ) → Section → Type 0
  HasFailed before section =
      Refutes d q budget (headings.Horizon ((range_of q).0 + before)) section
      × (refusal_under d q (headings.Steps (before + 1)) ≡ None) × HasSome d (step_query q (before + 1)) (before + 1)

  have_more : (before : ℕ) (sections : List Section) (section : Section) → HaveFailed d q budget before sections → HasFailed (before + length sections) section →
      HaveFailed d q budget before (sections ++ section ∷ [])
  have_more before [] section have is =
      let (refuted, within, some) : HasFailed before section = subst (λ (n : ℕ). HasFailed n section) (let e : before + 0 ≡ before = omega arith in e) is in
      (refuted, within, some, tt)
  have_more before (first ∷ sections) section (refuted, within, some, have) is = (
    refuted,
    within,
    some,
    have_more (before + 1) sections section have
        (subst (λ (n : ℕ). HasFailed n section) (let e : before + suc (length sections) ≡ before + 1 + length sections = omega arith in e) is),
  )

  pub ends_fair : (run : ForeverRun) (ending : ForeverEnding) → IsFairForever d q budget run → MayEndForever d q budget run ending →
      IsFairForever d q budget (record run { ending = Some ending })
  ends_fair run ending fair may = record { failed = fair.failed; next = fair.next; within = fair.within; example = fair.example; ending = may }

  module _ (failed : List Section) (section : Section) (example : Option (List ℕ)) where
    pub passes_fair : IsFairForever d q budget (at_rest failed example) → IsInReach q (length failed) →
        Refutes d q budget (headings.Horizon ((range_of q).0 + length failed)) section → IsFairForever d q budget (in_step failed section example)
    passes_fair fair reach refuted = record { failed = fair.failed; next = (reach, refuted); within = fair.within; example = fair.example; ending = tt }

    pub fails_fair : (row : List ℕ) → IsFairForever d q budget (in_step failed section example) → IsLeast d q (headings.Steps (length failed + 1)) row →
        IsFairForever d q budget (at_rest (failed ++ section ∷ []) (Some row))
    fails_fair row fair least =
        let (reach, refuted) = fair.next in
        let more = length-append failed (section ∷ []) in
        let count : length (failed ++ section ∷ []) ≡ length failed + 1 = omega arith in
        let low = reach.horizon in
        let few = reach.steps in
        let here : HasFailed (length failed) section = (refuted, least.within, some_under d q budget (headings.Steps (length failed + 1)) row least) in
        record {
          failed = have_more 0 failed section fair.failed (subst (λ (n : ℕ). HasFailed n section) (let e : length failed ≡ 0 + length failed = omega arith in e) here);
          next = tt;
          within = ((omega arith), (omega arith));
          example = ((omega arith), subst (λ (n : ℕ). IsLeast d q (headings.Steps n) row) (sym count) least);
          ending = tt;
        }
