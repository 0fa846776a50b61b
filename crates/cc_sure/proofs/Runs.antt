-- The shapes of a run, and what one event more makes of it.
use Rattle.std.proofs.Common.{◌≡◌, ◌∙◌, ℕ, ◌+◌, ◌≤◌, List, [], ◌∷◌, ◌++◌, length, Option, Some, None, refl, sym, subst, ap, arith, append-nil, append_assoc, length-append, inl, inr}
use Rattle.std.specs.Prelude.{IsNone, IsSome, flat_map, unwrap_or}
use Rattle.std.proofs.lemmas.Bool.{cases_lt}
use Rattle.cc_defs.specs.Description.{Description}
use Rattle.cc_defs.specs.GroundLaws.{PlainGroundQuery}
use Rattle.cc_defs.specs.Histories.{AreFirst}
use Rattle.cc_defs.specs.Resolved.{Query}
use Rattle.cc_defs.specs.Runs.{HasNone, range_of}
use Rattle.cc_sure.specs.declared.answer.Answer.{Answer}
use Rattle.cc_sure.specs.declared.phase.Phase.TheVariants as phases
use Rattle.cc_silent.specs.Sought.{IsAtomAt, PassesNoLimit, Any}
use Rattle.cc_sure.specs.SureRuns.{Settled, SureEnding, SureRun, Tried, IsFairSure, IsTrueSettled, IsTrueTried, MayEndSure, examples_of, settled_examples, shown_at, shown_in}
use Rattle.cc_sure.specs.SureTold.{SureTold, NoneAt, ExampleIs, AnswersAre, none_told, settled_told, sure_told, tried_told}
use Rattle.cc_sure.specs.Sures.{IsAt, IsSureOf, Stands, SureView}
use Rattle.cc_sure.proofs.Told.{none_more, settled_behind, settled_more, tried_behind, true_more}

pub none_is : {X : Type 0} (o : Option X) → IsNone o → o ≡ None
none_is None is = refl
none_is (Some x) is = absurd cc

pub some_is : {X : Type 0} (o : Option X) → IsSome o → (x : X) × (o ≡ Some x)
some_is None is = absurd cc
some_is (Some x) is = (x, refl)

-- the range of the query
pub range_is : (sure : SureView) (d : Description) (q : Query) → IsSureOf sure d q → ((range_of q).0 ≡ sure.query.lo) × ((range_of q).1 ≡ sure.query.hi)
range_is sure d q of =
    let (range, there, made) = of.query in (
      ap (λ (o : Option (ℕ × ℕ)). (unwrap_or o (1, 0)).0) there ∙ sym (ap (λ (g : PlainGroundQuery). g.lo) made),
      ap (λ (o : Option (ℕ × ℕ)). (unwrap_or o (1, 0)).1) there ∙ sym (ap (λ (g : PlainGroundQuery). g.hi) made),
    )

-- ---- shapes: a horizon is looked at; values are asked

abbrev pub at_first : ℕ → SureRun
at_first empty = record { empty = empty; first = None; done = []; next = []; ending = None }

abbrev pub going : ℕ → List ℕ → List Settled → List Tried → SureRun
going empty row done next = record { empty = empty; first = Some row; done = done; next = next; ending = None }

pub looking_is : (run : SureRun) → IsNone run.ending → IsNone run.first → (IsNone run.first → (run.done ≡ []) × (run.next ≡ [])) → run ≡ at_first run.empty
looking_is run ended first begun = λ i. record {
  empty = run.empty;
  first = none_is run.first first i;
  done = (begun first).0 i;
  next = (begun first).1 i;
  ending = none_is run.ending ended i;
}

pub asking_is : (run : SureRun) (row : List ℕ) → IsNone run.ending → run.first ≡ Some row → run ≡ going run.empty row run.done run.next
asking_is run row ended first = λ i. record {
  empty = run.empty;
  first = first i;
  done = run.done;
  next = run.next;
  ending = none_is run.ending ended i;
}

-- ---- an ending

pub ending_told : {X : Type 0} (xs : List X) (x : X) → xs ++ x ∷ [] ≡ (xs ++ []) ++ x ∷ []
ending_told xs x = ap (λ l. l ++ x ∷ []) (sym (append-nil xs))

module _ (d : Description) (q : Query) (budget : ℕ) where
  pub ends_fair : (run : SureRun) (ending : SureEnding) → IsFairSure d q budget run → MayEndSure d q budget run ending → IsFairSure d q budget (record run { ending = Some ending })
  ends_fair run ending fair may = record {
    claim = fair.claim;
    none = fair.none;
    within = fair.within;
    first = fair.first;
    begun = fair.begun;
    done = fair.done;
    next = fair.next;
    ending = may;
  }

  -- ---- horizons

  -- a horizon has no history, and its axioms pass no limit
  abbrev pub IsEmptyAt : ℕ → Type 0
  IsEmptyAt horizon = HasNone d q horizon × PassesNoLimit d q horizon Any

  pub passes_fair : (empty : ℕ) → IsFairSure d q budget (at_first empty) → (range_of q).0 + empty ≤ (range_of q).1 → IsEmptyAt ((range_of q).0 + empty) →
      IsFairSure d q budget (at_first (empty + 1))
  passes_fair empty fair low none = record {
    claim = fair.claim;
    none = λ horizon least less. elim (cases_lt horizon ((range_of q).0 + empty)) [
      | inl before ↦ fair.none horizon least before
      | inr same ↦ subst IsEmptyAt (let e : (range_of q).0 + empty ≡ horizon = omega arith in e) none
    ];
    within = omega arith;
    first = tt;
    begun = λ is. (refl, refl);
    done = tt;
    next = tt;
    ending = tt;
  }

  pub begins_fair : (empty : ℕ) (row : List ℕ) → IsFairSure d q budget (at_first empty) → (range_of q).0 + empty ≤ (range_of q).1 →
      AreFirst d q ((range_of q).0 + empty) None (row ∷ []) → PassesNoLimit d q ((range_of q).0 + empty) Any → IsFairSure d q budget (going empty row [] [])
  begins_fair empty row fair low first limit = record {
    claim = fair.claim;
    none = fair.none;
    within = fair.within;
    first = (low, first, limit);
    begun = λ is. absurd cc;
    done = tt;
    next = tt;
    ending = tt;
  }

  -- ---- values and positions

  module _ (empty : ℕ) (row : List ℕ) (done : List Settled) (next : List Tried) (fair : IsFairSure d q budget (going empty row done next)) where
    pub tries_fair : (tried : Tried) → IsAtomAt d ((range_of q).0 + empty) (length done) (length next) →
        IsTrueTried d q budget ((range_of q).0 + empty) (examples_of (going empty row done next)) (length done) (length next) tried →
        IsFairSure d q budget (going empty row done (next ++ tried ∷ []))
    tries_fair tried atom is =
        let e : length next ≡ 0 + length next = omega arith in
        record {
          claim = fair.claim;
          none = fair.none;
          within = fair.within;
          first = fair.first;
          begun = λ is. absurd cc;
          done = fair.done;
          next = true_more d q budget ((range_of q).0 + empty) (settled_examples (going empty row done next)) (length done) 0 next tried fair.next
              (subst (IsAtomAt d ((range_of q).0 + empty) (length done)) e atom)
              (subst (λ (n : ℕ). IsTrueTried d q budget ((range_of q).0 + empty) (examples_of (going empty row done next)) (length done) n tried) e is);
          ending = tt;
        }

    pub settles_fair : (answers : List Answer) →
        IsTrueSettled d q budget ((range_of q).0 + empty) (settled_examples (going empty row done next)) (length done) (record { tried = next; answers = answers }) →
        IsFairSure d q budget (going empty row (done ++ record { tried = next; answers = answers } ∷ []) [])
    settles_fair answers is = record {
      claim = fair.claim;
      none = fair.none;
      within = fair.within;
      first = fair.first;
      begun = λ is. absurd cc;
      done = settled_more d q budget ((range_of q).0 + empty) (row ∷ []) 0 done (record { tried = next; answers = answers }) fair.done
          (subst (λ (n : ℕ). IsTrueSettled d q budget ((range_of q).0 + empty) (settled_examples (going empty row done next)) n (record { tried = next; answers = answers }))
          (let e : length done ≡ 0 + length done = omega arith in e) is);
      next = tt;
      ending = tt;
    }

-- ---- what is told

module _ (q : Query) where
  nils : {X : Type 0} (xs : List X) → ((xs ++ []) ++ []) ++ [] ≡ xs
  nils xs = append-nil ((xs ++ []) ++ []) ∙ append-nil (xs ++ []) ∙ append-nil xs

  first_told : (empty : ℕ) → sure_told q (at_first empty) ≡ none_told (range_of q).0 empty
  first_told empty = append-nil (((none_told (range_of q).0 empty ++ []) ++ []) ++ []) ∙ nils (none_told (range_of q).0 empty)

  pub passes_told : (empty : ℕ) → sure_told q (at_first (empty + 1)) ≡ sure_told q (at_first empty) ++ NoneAt ((range_of q).0 + empty) ∷ []
  passes_told empty = first_told (empty + 1) ∙ none_more (range_of q).0 empty ∙ ap (λ l. l ++ NoneAt ((range_of q).0 + empty) ∷ []) (sym (first_told empty))

  pub begins_told : (empty : ℕ) (row : List ℕ) → sure_told q (going empty row [] []) ≡ sure_told q (at_first empty) ++ ExampleIs 1 row ∷ []
  begins_told empty row = nils (none_told (range_of q).0 empty ++ ExampleIs 1 row ∷ []) ∙ ap (λ l. l ++ ExampleIs 1 row ∷ []) (sym (first_told empty))

  module _ (empty : ℕ) (row : List ℕ) (done : List Settled) (next : List Tried) where
    abbrev settled_front : List SureTold
    settled_front = (none_told (range_of q).0 empty ++ ExampleIs 1 row ∷ []) ++ settled_told 1 0 done

    abbrev next_told : List Tried → List SureTold
    next_told tried = tried_told (length (settled_examples (going empty row done next))) (length done) 0 tried

    -- what a value adds
    abbrev pub adds : Tried → List SureTold
    adds tried = tried_told (length (examples_of (going empty row done next))) (length done) (length next) (tried ∷ [])

    pub tries_told : (tried : Tried) → sure_told q (going empty row done (next ++ tried ∷ [])) ≡ sure_told q (going empty row done next) ++ adds tried
    tries_told tried =
        let all = length-append (settled_examples (going empty row done next)) (shown_in next) in
        append-nil (settled_front ++ next_told (next ++ tried ∷ []))
        ∙ ap (λ l. settled_front ++ l) (tried_behind (length (settled_examples (going empty row done next))) (length done) 0 next (tried ∷ [])
        ∙ ap (λ (n : ℕ). next_told next ++ tried_told n (length done) (0 + length next) (tried ∷ [])) (sym all)
        ∙ ap (λ (n : ℕ). next_told next ++ tried_told (length (examples_of (going empty row done next))) (length done) n (tried ∷ [])) (let e : 0 + length next ≡ length next = omega arith in e))
        ∙ sym (append_assoc settled_front (next_told next) (adds tried))
        ∙ ap (λ l. l ++ adds tried) (sym (append-nil (settled_front ++ next_told next)))

    pub settles_told : (answers : List Answer) → sure_told q (going empty row (done ++ record { tried = next; answers = answers } ∷ []) [])
        ≡ sure_told q (going empty row done next) ++ AnswersAre (length done) answers ∷ []
    settles_told answers =
        let N = none_told (range_of q).0 empty ++ ExampleIs 1 row ∷ [] in
        let S = settled_told 1 0 done in
        let T : ℕ → ℕ → List SureTold = λ m p. tried_told m p 0 next ++ AnswersAre p answers ∷ [] in
        append-nil ((N ++ settled_told 1 0 (done ++ record { tried = next; answers = answers } ∷ [])) ++ [])
        ∙ append-nil (N ++ settled_told 1 0 (done ++ record { tried = next; answers = answers } ∷ []))
        ∙ ap (λ l. N ++ l) (settled_behind 1 0 done (record { tried = next; answers = answers })
        ∙ ap (λ (m : ℕ). S ++ T m (0 + length done)) (let e : 1 + length (flat_map shown_at done) ≡ length (row ∷ flat_map shown_at done) = omega arith in e)
        ∙ ap (λ (p : ℕ). S ++ T (length (row ∷ flat_map shown_at done)) p) (let e : 0 + length done ≡ length done = omega arith in e))
        ∙ sym (append_assoc N S (T (length (row ∷ flat_map shown_at done)) (length done)))
        ∙ sym (append_assoc (N ++ S) (next_told next) (AnswersAre (length done) answers ∷ []))
        ∙ ap (λ l. l ++ AnswersAre (length done) answers ∷ []) (sym (append-nil ((N ++ S) ++ next_told next)))

-- ---- where a state stands

module _ (d : Description) (q : Query) (now : SureView) where
  -- the run that it stands behind has the shape of its phase
  pub looking_stands : (run : SureRun) → Stands d q (record now { phase = phases.Looking }) run → (empty : ℕ) × (run ≡ at_first empty) × IsFairSure d q now.budget (at_first empty)
      × (now.horizon ≡ (range_of q).0 + empty)
  looking_stands run stands =
      let same = looking_is run stands.awaits.0 stands.awaits.1 stands.fair.begun in
      (run.empty, same, subst (IsFairSure d q now.budget) same stands.fair, stands.at.horizon)

  pub asking_stands : (form : Rattle.cc_defs.specs.Sections.Axioms) (run : SureRun) → Stands d q (record now { phase = phases.Asking form }) run →
      (empty : ℕ) × (row : List ℕ) × (run ≡ going empty row run.done run.next) × IsFairSure d q now.budget (going empty row run.done run.next)
      × IsAt q now (going empty row run.done run.next)
  asking_stands form run stands =
      let (row, first) = some_is run.first stands.awaits.1 in
      let same = asking_is run row stands.awaits.0 first in
      (run.empty, row, same, subst (IsFairSure d q now.budget) same stands.fair, (subst (IsAt q now) same (record { horizon = stands.at.horizon; examples = stands.at.examples; position = stands.at.position; never = stands.at.never })))
