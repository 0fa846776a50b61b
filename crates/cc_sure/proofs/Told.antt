-- What is told of one value or one position more, and that it is true.
use Rattle.std.proofs.Common.{◌≡◌, ◌∙◌, ℕ, ◌+◌, zero, suc, true, false, List, [], ◌∷◌, ◌++◌, length, map, slice_get, Some, None, sym, subst, ap, arith, append-nil, append_assoc, length-append}
use Rattle.std.specs.Prelude.{flat_map}
use Rattle.std.proofs.lemmas.Grind.{flat_map-append}
use Rattle.std.proofs.lemmas.List.Elements.{Contains-append_left, Contains-append_right}
use Rattle.cc_defs.specs.Description.{Description}
use Rattle.cc_defs.specs.Histories.{AreAllOf, IsHistory}
use Rattle.cc_defs.specs.Resolved.{Query}
use Rattle.cc_defs.specs.Runs.{Section}
use Rattle.cc_lists.proofs.Members.{in_first, in_none}
use Rattle.cc_sure.specs.Outcomes.{SomeHas}
use Rattle.cc_silent.specs.Sought.{HasValue, IsAtomAt, IsSought, With}
use Rattle.cc_sure.specs.SureRuns.{Settled, Tried, Known, Shown, Never, AreTrueSettled, AreTrueTried, IsTrueSettled, IsTrueTried, shown_at, shown_by, shown_in}
use Rattle.cc_sure.specs.SureTold.{SureTold, ExampleIs, NeverSo, AnswersAre, none_told, NoneAt, settled_told, tried_told}
use Rattle.cc_sure.specs.Sures.{is_never}

-- ---- one value more

shown_one : (tried : Tried) → shown_in (tried ∷ []) ≡ shown_by tried
shown_one tried = append-nil (shown_by tried)

pub shown_more : (before : List Tried) (tried : Tried) → shown_in (before ++ tried ∷ []) ≡ shown_in before ++ shown_by tried
shown_more before tried = flat_map-append shown_by before (tried ∷ []) ∙ ap (λ (l : List (List ℕ)). shown_in before ++ l) (shown_one tried)

-- what is told of values and then of others
pub tried_behind : (examples position value : ℕ) (before more : List Tried) → tried_told examples position value (before ++ more)
    ≡ tried_told examples position value before ++ tried_told (examples + length (shown_in before)) position (value + length before) more
tried_behind examples position value [] more =
    ap (λ (n : ℕ). tried_told n position value more) (let e : examples ≡ examples + 0 = omega arith in e)
    ∙ ap (λ (n : ℕ). tried_told (examples + 0) position n more) (let e : value ≡ value + 0 = omega arith in e)
tried_behind examples position value (Known ∷ before) more =
    tried_behind examples position (value + 1) before more
    ∙ ap (λ (n : ℕ). tried_told examples position (value + 1) before ++ tried_told (examples + length (shown_in before)) position n more)
    (let e : value + 1 + length before ≡ value + suc (length before) = omega arith in e)
tried_behind examples position value (Shown row ∷ before) more =
    ap (λ l. ExampleIs (examples + 1) row ∷ l) (tried_behind (examples + 1) position (value + 1) before more
    ∙ ap (λ (n : ℕ). tried_told (examples + 1) position (value + 1) before ++ tried_told (examples + 1 + length (shown_in before)) position n more)
    (let e : value + 1 + length before ≡ value + suc (length before) = omega arith in e)
    ∙ ap (λ (n : ℕ). tried_told (examples + 1) position (value + 1) before ++ tried_told n position (value + suc (length before)) more)
    (let e : examples + 1 + length (shown_in before) ≡ examples + suc (length (shown_in before)) = omega arith in e))
tried_behind examples position value (Never section ∷ before) more =
    ap (λ l. NeverSo position value section ∷ l) (tried_behind examples position (value + 1) before more
    ∙ ap (λ (n : ℕ). tried_told examples position (value + 1) before ++ tried_told (examples + length (shown_in before)) position n more)
    (let e : value + 1 + length before ≡ value + suc (length before) = omega arith in e))

-- what is told of positions and then of another
pub settled_behind : (examples position : ℕ) (before : List Settled) (settled : Settled) → settled_told examples position (before ++ settled ∷ [])
    ≡ settled_told examples position before
    ++ (tried_told (examples + length (flat_map shown_at before)) (position + length before) 0 settled.tried ++ AnswersAre (position + length before) settled.answers ∷ [])
settled_behind examples position [] settled =
    ap (λ (n : ℕ). tried_told n position 0 settled.tried ++ AnswersAre position settled.answers ∷ []) (let e : examples ≡ examples + 0 = omega arith in e)
    ∙ ap (λ (n : ℕ). tried_told (examples + 0) n 0 settled.tried ++ AnswersAre n settled.answers ∷ []) (let e : position ≡ position + 0 = omega arith in e)
settled_behind examples position (first ∷ before) settled =
    let told = tried_told examples position 0 first.tried in
    let last : ℕ → ℕ → List SureTold = λ m n. tried_told m n 0 settled.tried ++ AnswersAre n settled.answers ∷ [] in
    let all = length-append (shown_at first) (flat_map shown_at before) in
    ap (λ (l : List SureTold). told ++ AnswersAre position first.answers ∷ l) (settled_behind (examples + length (shown_at first)) (position + 1) before settled
    ∙ ap (λ (n : ℕ). settled_told (examples + length (shown_at first)) (position + 1) before ++ last n (position + 1 + length before))
    (let e : examples + length (shown_at first) + length (flat_map shown_at before) ≡ examples + length (shown_at first ++ flat_map shown_at before) = omega arith in e)
    ∙ ap (λ (n : ℕ). settled_told (examples + length (shown_at first)) (position + 1) before ++ last (examples + length (shown_at first ++ flat_map shown_at before)) n)
    (let e : position + 1 + length before ≡ position + suc (length before) = omega arith in e))
    ∙ sym (append_assoc told (AnswersAre position first.answers ∷ settled_told (examples + length (shown_at first)) (position + 1) before)
    (last (examples + length (shown_at first ++ flat_map shown_at before)) (position + suc (length before))))

pub none_more : (horizon count : ℕ) → none_told horizon (count + 1) ≡ none_told horizon count ++ NoneAt (horizon + count) ∷ []
none_more horizon count = ap (none_told horizon) (let e : count + 1 ≡ suc count = omega arith in e) ∙ by horizon count
  where
    by : (horizon count : ℕ) → none_told horizon (suc count) ≡ none_told horizon count ++ NoneAt (horizon + count) ∷ []
    by horizon zero = ap (λ (n : ℕ). NoneAt n ∷ []) (let e : horizon ≡ horizon + 0 = omega arith in e)
    by horizon (suc count) = ap (λ l. NoneAt horizon ∷ l) (by (horizon + 1) count
        ∙ ap (λ (n : ℕ). none_told (horizon + 1) count ++ NoneAt n ∷ []) (let e : horizon + 1 + count ≡ horizon + suc count = omega arith in e))

-- ---- it is true

module _ (d : Description) (q : Query) (budget horizon : ℕ) where
  pub true_more : (examples : List (List ℕ)) (position value : ℕ) (before : List Tried) (tried : Tried) → AreTrueTried d q budget horizon examples position value before →
      IsAtomAt d horizon position (value + length before) → IsTrueTried d q budget horizon (examples ++ shown_in before) position (value + length before) tried →
      AreTrueTried d q budget horizon examples position value (before ++ tried ∷ [])
  true_more examples position value [] tried are atom is =
      let e : value + 0 ≡ value = omega arith in (
        subst (IsAtomAt d horizon position) e atom,
        subst (λ (n : ℕ). IsTrueTried d q budget horizon examples position n tried) e
            (subst (λ (l : List (List ℕ)). IsTrueTried d q budget horizon l position (value + 0) tried) (append-nil examples) is),
        tt,
      )
  true_more examples position value (first ∷ before) tried (here, so, are) atom is =
      let e : value + suc (length before) ≡ value + 1 + length before = omega arith in (
        here,
        so,
        true_more (examples ++ shown_by first) position (value + 1) before tried are (subst (IsAtomAt d horizon position) e atom)
            (subst (λ (n : ℕ). IsTrueTried d q budget horizon ((examples ++ shown_by first) ++ shown_in before) position n tried) e
            (subst (λ (l : List (List ℕ)). IsTrueTried d q budget horizon l position (value + suc (length before)) tried) (sym (append_assoc examples (shown_by first) (shown_in before))) is)),
      )

  pub settled_more : (examples : List (List ℕ)) (position : ℕ) (before : List Settled) (settled : Settled) → AreTrueSettled d q budget horizon examples position before →
      IsTrueSettled d q budget horizon (examples ++ flat_map shown_at before) (position + length before) settled →
      AreTrueSettled d q budget horizon examples position (before ++ settled ∷ [])
  settled_more examples position [] settled are is = (
    subst (λ (n : ℕ). IsTrueSettled d q budget horizon examples n settled) (let e : position + 0 ≡ position = omega arith in e)
        (subst (λ (l : List (List ℕ)). IsTrueSettled d q budget horizon l (position + 0) settled) (append-nil examples) is),
    tt,
  )
  settled_more examples position (first ∷ before) settled (so, are) is = (
    so,
    settled_more (examples ++ shown_at first) (position + 1) before settled are
        (subst (λ (n : ℕ). IsTrueSettled d q budget horizon ((examples ++ shown_at first) ++ flat_map shown_at before) n settled) (let e : position + suc (length before) ≡ position + 1 + length before = omega arith in e)
        (subst (λ (l : List (List ℕ)). IsTrueSettled d q budget horizon l (position + suc (length before)) settled) (sym (append_assoc examples (shown_at first) (flat_map shown_at before))) is)),
  )

  -- ---- what it says of each value: no history has it, or some example

  no_history : (position value : ℕ) → AreAllOf (IsSought d q horizon (With position value)) [] → (row : List ℕ) → IsHistory d q horizon None row → HasValue position value row → ⊥
  no_history position value all row is has = in_none row ((all.members row).1 (is, has))

  never_of : (position value : ℕ) (section : Section) (examples : List (List ℕ)) → IsTrueTried d q budget horizon examples position value (Never section) →
      (row : List ℕ) → IsHistory d q horizon None row → HasValue position value row → ⊥
  never_of position value section examples is =
      no_history position value (subst (λ (l : List (List ℕ)). AreAllOf (IsSought d q horizon (With position value)) l) is.1.silent (is.1.tells.all_told is.2))

  pub said_of : (examples : List (List ℕ)) (position value : ℕ) (tried : List Tried) → AreTrueTried d q budget horizon examples position value tried → (index : ℕ) →
      (slice_get (map is_never tried) index ≡ Some true → (row : List ℕ) → IsHistory d q horizon None row → HasValue position (value + index) row → ⊥)
      × (slice_get (map is_never tried) index ≡ Some false → SomeHas (examples ++ shown_in tried) position (value + index))
  said_of examples position value [] are index = ((λ at. absurd cc), (λ at. absurd cc))
  said_of examples position value (Known ∷ tried) (atom, is, are) zero = (
    (λ at. absurd cc),
    (λ at. subst (SomeHas (examples ++ shown_in tried) position) (let e : value ≡ value + 0 = omega arith in e) (is.0, Contains-append_left examples (shown_in tried) is.0 is.1, is.2)),
  )
  said_of examples position value (Shown row ∷ tried) (atom, is, are) zero = (
    (λ at. absurd cc),
    (λ at. subst (SomeHas (examples ++ row ∷ shown_in tried) position) (let e : value ≡ value + 0 = omega arith in e)
        (row, Contains-append_right examples (row ∷ shown_in tried) row (in_first row (shown_in tried)), (is.1.each row (in_first row [])).1)),
  )
  said_of examples position value (Never section ∷ tried) (atom, is, are) zero = (
    (λ at row history has. never_of position value section examples is row history (subst (λ (n : ℕ). HasValue position n row) (let e : value + 0 ≡ value = omega arith in e) has)),
    (λ at. absurd cc),
  )
  said_of examples position value (first ∷ tried) (atom, is, are) (suc index) =
      let rest = said_of (examples ++ shown_by first) position (value + 1) tried are index in
      let e : value + 1 + index ≡ value + suc index = omega arith in (
        (λ at row history has. rest.0 at row history (subst (λ (n : ℕ). HasValue position n row) (sym e) has)),
        (λ at. subst (SomeHas (examples ++ (shown_by first ++ shown_in tried)) position) e
            (subst (λ (l : List (List ℕ)). SomeHas l position (value + 1 + index)) (append_assoc examples (shown_by first) (shown_in tried)) (rest.1 at))),
      )
