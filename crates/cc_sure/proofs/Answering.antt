-- The answers of a position all of whose values were tried.
use Rattle.std.proofs.Common.{◌≡◌, ◌∙◌, ℕ, zero, suc, ◌+◌, ◌<◌, ◌⊎◌, Bool, true, false, List, [], ◌∷◌, ◌++◌, drop, take, length, map, slice_get, Some, None, refl, sym, subst, ap, arith, append-nil, inl, inr}
use Rattle.std.specs.Prelude.{flat_map}
use Rattle.std.proofs.lemmas.Bool.{cases_eq}
use Rattle.std.proofs.lemmas.List.{length-map}
use Rattle.std.proofs.lemmas.Grind.{flat_map-append}
use Rattle.cc_defs.specs.Description.{Description, sizes_at}
use Rattle.cc_defs.specs.Histories.{IsHistory}
use Rattle.cc_defs.specs.Resolved.{Query}
use Rattle.cc_defs.specs.Runs.{range_of}
use Rattle.cc_defs.specs.Sections.{Axioms}
use Rattle.cc_lists.proofs.Members.{all_append, in_cases, in_none}
use Rattle.cc_sure.specs.declared.answer.Answer.{Answer}
use Rattle.cc_sure.specs.declared.answer.Answer.TheVariants as answers
use Rattle.cc_sure.specs.Outcomes.{AreAnswersFor, IsAnswerFor, SomeHas}
use Rattle.cc_silent.specs.Sought.{HasValue}
use Rattle.cc_sure.specs.SureRuns.{Settled, Tried, AreRightAnswers, IsFairSure, IsFirstWith, IsNew, IsRightAnswer, IsTrueSettled, examples_of, settled_examples, shown_at, shown_in}
use Rattle.cc_sure.specs.Sures.{IsFormOf, is_never}
use Rattle.cc_silent.proofs.Atoms.{index_at}
use Rattle.cc_sure.proofs.Runs.{going}
use Rattle.cc_sure.proofs.Told.{said_of}

-- ---- lists

-- an item of a list with one more behind it
pub behind_cases : {X : Type 0} (xs : List X) (last : X) (k : ℕ) (x : X) → slice_get (xs ++ last ∷ []) k ≡ Some x → (slice_get xs k ≡ Some x) ⊎ ((k ≡ length xs) × (last ≡ x))
behind_cases [] last zero x at = inr (refl, (let e : last ≡ x = cc in e))
behind_cases [] last (suc k) x at = absurd cc
behind_cases (y ∷ xs) last zero x at = inl at
behind_cases (y ∷ xs) last (suc k) x at = elim (behind_cases xs last k x at) [
  | inl before ↦ inl before
  | inr end ↦ inr (ap suc end.0, end.1)
]

pub taken_one : {X : Type 0} (xs : List X) (i : ℕ) (x : X) → slice_get xs i ≡ Some x → take (suc i) xs ≡ take i xs ++ x ∷ []
taken_one [] i x at = absurd cc
taken_one (y ∷ ys) zero x at = ap (λ z. z ∷ []) (let e : y ≡ x = cc in e)
taken_one (y ∷ ys) (suc i) x at = ap (λ l. y ∷ l) (taken_one ys i x at)

split_one : {X : Type 0} (xs : List X) (i : ℕ) (x : X) → slice_get xs i ≡ Some x → (xs ≡ take i xs ++ x ∷ drop (suc i) xs) × (length (take i xs) ≡ i)
split_one [] i x at = absurd cc
split_one (y ∷ ys) zero x at = (ap (λ z. z ∷ ys) (let e : y ≡ x = cc in e), refl)
split_one (y ∷ ys) (suc i) x at = let rest = split_one ys i x at in (ap (λ l. y ∷ l) rest.0, ap suc rest.1)

-- ---- which examples have an atom

pub new_one : (examples : List (List ℕ)) (position value i : ℕ) (row : List ℕ) → slice_get examples i ≡ Some row → IsNew (take i examples) position value →
    (HasValue position value row → ⊥) → IsNew (take (i + 1) examples) position value
new_one examples position value i row at new lacks =
    subst (λ (l : List (List ℕ)). IsNew l position value) (sym (ap (λ (n : ℕ). take n examples) (let e : i + 1 ≡ suc i = omega arith in e) ∙ taken_one examples i row at))
    (all_append (λ (r : List ℕ). HasValue position value r → ⊥) (take i examples) (row ∷ []) new (lacks, tt))

pub first_so : (examples : List (List ℕ)) (position value i : ℕ) (row : List ℕ) → slice_get examples i ≡ Some row → IsNew (take i examples) position value →
    HasValue position value row → IsFirstWith examples position value (i + 1)
first_so examples position value i row at new has =
    let split = split_one examples i row at in
    record {
      before = take i examples;
      row = row;
      behind = drop (suc i) examples;
      parts = split.0;
      number_is = (let long = split.1 in omega arith);
      has = has;
      others = new;
    }

pub not_both : (examples : List (List ℕ)) (position value : ℕ) → SomeHas examples position value → IsNew examples position value → ⊥
not_both [] position value (row, there, has) new = in_none row there
not_both (first ∷ examples) position value (row, there, has) new = elim (in_cases first row examples there) [
  | inl same ↦ new.0 (subst (HasValue position value) (sym same) has)
  | inr rest ↦ not_both examples position value (row, rest, has) new.1
]

pub answers_more : (examples : List (List ℕ)) (position : ℕ) (never : List Bool) (value : ℕ) (before : List Answer) (answer : Answer) →
    AreAnswersFor examples position never value before → IsAnswerFor examples position never (value + length before) answer → AreAnswersFor examples position never value (before ++ answer ∷ [])
answers_more examples position never value [] answer are is = (subst (λ (n : ℕ). IsAnswerFor examples position never n answer) (let e : value + 0 ≡ value = omega arith in e) is, tt)
answers_more examples position never value (first ∷ before) answer are is = (
  are.0,
  answers_more examples position never (value + 1) before answer are.1
      (subst (λ (n : ℕ). IsAnswerFor examples position never n answer) (let e : value + suc (length before) ≡ value + 1 + length before = omega arith in e) is),
)

pub examples_still : (row : List ℕ) (done : List Settled) (next : List Tried) (answers : List Answer) →
    examples_of (going 0 row done next) ≡ examples_of (going 0 row (done ++ record { tried = next; answers = answers } ∷ []) [])
examples_still row done next answers =
    sym (append-nil (row ∷ (flat_map shown_at (done ++ record { tried = next; answers = answers } ∷ [])))
    ∙ ap (λ l. row ∷ l) (flat_map-append shown_at done (record { tried = next; answers = answers } ∷ []) ∙ ap (λ l. flat_map shown_at done ++ l) (append-nil (shown_in next))))

-- ---- answers that are right

module _ (d : Description) (q : Query) (horizon position : ℕ) (examples : List (List ℕ)) (never : List Bool)
    (fits : (row : List ℕ) → IsHistory d q horizon None row → (index : ℕ) × (slice_get row position ≡ Some index) × (index < length never))
    (none : (value : ℕ) → slice_get never value ≡ Some true → (row : List ℕ) → IsHistory d q horizon None row → HasValue position value row → ⊥)
    (some : (value : ℕ) → slice_get never value ≡ Some false → SomeHas examples position value) where
  right_one : (value : ℕ) (answer : Answer) → IsAnswerFor examples position never value answer → IsRightAnswer d q horizon examples position value answer
  right_one value answers.Certain is = λ row history.
      let (index, there, low) = fits row history in
      elim (cases_eq index value) [
        | inl same ↦ there ∙ ap Some same
        | inr other ↦ absurd (none index (is index low other) row history there)
      ]
  right_one value (answers.Possible example) (first, (other, apart, at)) =
      let (row, there, has) = some other at in
      (first, (row, there, (λ same. apart (let e : Some other ≡ Some value = sym has ∙ same in let one : other ≡ value = cc in one))))
  right_one value answers.Impossible is = none value is

  pub right_all : (value : ℕ) (all : List Answer) → AreAnswersFor examples position never value all → AreRightAnswers d q horizon examples position value all
  right_all value [] are = tt
  right_all value (answer ∷ all) are = (right_one value answer are.0, right_all (value + 1) all are.1)

moved : (all : List Answer) (examples others : List (List ℕ)) (position place : ℕ) (never flags : List Bool) → examples ≡ others → position ≡ place → never ≡ flags →
    AreAnswersFor examples position never 0 all → AreAnswersFor others place flags 0 all
moved all examples others position place never flags same here flag are =
    subst (λ (f : List Bool). AreAnswersFor others place f 0 all) flag
    (subst (λ (p : ℕ). AreAnswersFor others p never 0 all) here (subst (λ (l : List (List ℕ)). AreAnswersFor l position never 0 all) same are))

pub settled_so : (d : Description) (q : Query) (budget horizon : ℕ) (form : Axioms) → IsFormOf d q horizon form → (empty : ℕ) (row : List ℕ) (done : List Settled) (next : List Tried)
    (examples : List (List ℕ)) (position : ℕ) (never : List Bool) (answers : List Answer) → IsFairSure d q budget (going empty row done next) →
    horizon ≡ (range_of q).0 + empty → examples ≡ examples_of (going empty row done next) → position ≡ length done → never ≡ map is_never next →
    slice_get form.sizes position ≡ Some (length never) → AreAnswersFor examples position never 0 answers → length answers ≡ length never →
    IsTrueSettled d q budget ((range_of q).0 + empty) (settled_examples (going empty row done next)) (length done) (record { tried = next; answers = answers })
settled_so d q budget horizon form opened empty row done next examples position never answers fair horizon_is examples_is position_is never_is all right count =
    let h = (range_of q).0 + empty in
    let before = settled_examples (going empty row done next) in
    let long : length never ≡ length next = ap length never_is ∙ length-map next is_never in
    let sizes : form.sizes ≡ sizes_at d h = ap (λ (f : Axioms). f.sizes) opened.axioms ∙ ap (sizes_at d) horizon_is in
    let said = said_of d q budget h before (length done) 0 next fair.next in
    let fits : (r : List ℕ) → IsHistory d q h None r → (index : ℕ) × (slice_get r (length done) ≡ Some index) × (index < length (map is_never next)) =
    (λ r history.
    let one = index_at form.sizes r position (length never) (((opened.tells.rows r).1 (subst (λ (n : ℕ). IsHistory d q n None r) (sym horizon_is) history)).is_row) all in
    (one.0, ap (slice_get r) (sym position_is) ∙ one.1, subst (λ (l : List Bool). one.0 < length l) never_is one.2)) in
    record {
      each = fair.next;
      all_tried = sym (ap (λ (l : List ℕ). slice_get l (length done)) sizes) ∙ ap (slice_get form.sizes) (sym position_is) ∙ all ∙ ap Some long;
      right = right_all d q h (length done) (examples_of (going empty row done next)) (map is_never next) fits
          (λ value at r history has. (said value).0 at r history (subst (λ (n : ℕ). HasValue (length done) n r) (let e : value ≡ 0 + value = omega arith in e) has))
          (λ value at. subst (SomeHas (examples_of (going empty row done next)) (length done)) (let e : 0 + value ≡ value = omega arith in e) ((said value).1 at))
          0 answers (moved answers examples (examples_of (going empty row done next)) position (length done) never (map is_never next) examples_is position_is never_is right);
      all_answered = count ∙ long;
    }
