-- What sure mode tells of each value of each position: it is so, and it is what is printed.
use Rattle.std.proofs.Common.{◌≡◌, ◌∙◌, refl, sym, ap, ap₂, subst, ℕ, zero, suc, ◌+◌, ◌-◌, ◌<◌, List, [], ◌∷◌, ◌++◌, length, map, slice_get, Option, Some, None, arith, append_assoc, append-nil}
use Rattle.std.specs.Prelude.{Contains, IsFalse, IsNone, IsSomeAnd, codes, flat_map}
use Rattle.std.specs.List.{All}
use Rattle.std.proofs.lemmas.Grind.{flat_map-append}
use Rattle.std.proofs.lemmas.List.Elements.{All-append, All-cons, All-contains, All-nil, Contains-append_left, Contains-append_right}
use Rattle.cc_corollaries.specs.Corollaries.{MeetsThem, none_text}
use Rattle.cc_corollaries.specs.Values.{AllSo, AreExamples, IsSo, OfPosition, answers_text, examples_text, positions_text}
use Rattle.cc_corollaries.proofs.Nones.{unclaimed}
use Rattle.cc_corollaries.proofs.Printed.{up_front}
use Rattle.cc_defs.specs.Declarations.{upto}
use Rattle.cc_defs.specs.Description.{Description, sizes_at}
use Rattle.cc_defs.specs.Events.{of_horizon}
use Rattle.cc_defs.specs.Histories.{AreFirstOf, IsHistory, condition_holds}
use Rattle.cc_defs.specs.Resolved.{Query}
use Rattle.cc_defs.specs.Runs.{range_of}
use Rattle.cc_run.specs.Modes.Surely.{sure_line, sure_text}
use Rattle.cc_silent.specs.Sought.{HasValue}
use Rattle.cc_sure.specs.declared.answer.Answer.{Answer}
use Rattle.cc_sure.specs.declared.answer.Answer.TheVariants as answers
use Rattle.cc_sure.specs.SureRuns.{AreRightAnswers, AreTrueSettled, AreTrueTried, Complete, IsRightAnswer, Known, Never, Settled, Shown, SureRun, Tried, shown_at, shown_in, sought_next, sure_horizon}
use Rattle.cc_sure.specs.SureTold.{AnswersAre, Ends, ExampleIs, SureTold, none_told, settled_told, tried_told}
use Rattle.cc_tell_modes.specs.SureTexts.{answer_lines, ending_line}

-- the histories that were found for a position, and the answers to its values
abbrev pub of_settled : Settled → OfPosition
of_settled settled = record { found = shown_at settled; answers = settled.answers }

-- what was found for them, together
pub found_in : (done : List Settled) → flat_map shown_at done ≡ flat_map (λ (one : OfPosition). one.found) (map of_settled done)
found_in [] = refl
found_in (settled ∷ others) = ap (λ (l : List (List ℕ)). shown_at settled ++ l) (found_in others)

-- ---- what is answered is so

one_at : {A : Type 0} (before : List A) (x : A) (behind more : List A) → slice_get ((before ++ x ∷ behind) ++ more) (length before) ≡ Some x
one_at [] x behind more = refl
one_at (y ∷ before) x behind more = one_at before x behind more

-- the row that is first, and alone, is so
pub only_first : (Is : List ℕ → Type 0) (row : List ℕ) → AreFirstOf Is (row ∷ []) → Is row
only_first Is row first = first.each row (zero, (omega arith), refl)

module _ (d : Description) (q : Query) (budget horizon : ℕ) where
  abbrev pub Is : List ℕ → Type 0
  Is row = IsHistory d q horizon None row

  history_of : IsNone q.claim → (row : List ℕ) → MeetsThem d q horizon row → Is row
  history_of no_claim row (path, conditions) = record {
    path = path;
    meets = record { conditions = conditions; claim = unclaimed (λ claim. IsFalse (condition_holds d horizon row claim)) q.claim no_claim };
    after = tt;
  }

  meets_of : (row : List ℕ) → Is row → MeetsThem d q horizon row
  meets_of row history = (history.path, history.meets.conditions)

  -- each example that was found is a history
  found_are : (examples : List (List ℕ)) (position value : ℕ) (tried : List Tried) → AreTrueTried d q budget horizon examples position value tried → All Is (shown_in tried)
  found_are examples position value [] are = All-nil Is
  found_are examples position value (Known ∷ others) (atom, is, are) = found_are _ position (value + 1) others are
  found_are examples position value (Shown row ∷ others) (atom, (new, first, within), are) =
      All-cons Is row (shown_in others) (only_first _ row first).0 (found_are _ position (value + 1) others are)
  found_are examples position value (Never section ∷ others) (atom, is, are) = found_are _ position (value + 1) others are

  -- and so is each that was found for these positions
  pub all_found : (examples : List (List ℕ)) (position : ℕ) (done : List Settled) → AreTrueSettled d q budget horizon examples position done → All Is (flat_map shown_at done)
  all_found examples position [] done = All-nil Is
  all_found examples position (settled ∷ others) (is, done) =
      All-append Is (shown_at settled) (flat_map shown_at others) (found_are examples position 0 settled.tried is.each)
      (all_found (examples ++ shown_at settled) (position + 1) others done)

  pub are_examples : (whole : List (List ℕ)) → All Is whole → AreExamples d q horizon whole
  are_examples whole are row there = meets_of row (All-contains Is whole row are there)

  module _ (no_claim : IsNone q.claim) (whole : List (List ℕ)) (are : All Is whole) where
    -- with some of the examples, behind which the others come
    so : (examples more : List (List ℕ)) → whole ≡ examples ++ more → (position value : ℕ) (answer : Answer) →
        IsRightAnswer d q horizon examples position value answer → IsSo d q horizon whole position value answer
    so examples more parts position value answers.Certain right = λ row meets. right row (history_of no_claim row meets)
    so examples more parts position value (answers.Possible example) (first, (row, there, lacks)) =
        let at : slice_get whole (length first.before) ≡ Some first.row =
        ap (λ (l : List (List ℕ)). slice_get l (length first.before)) (parts ∙ ap (λ (l : List (List ℕ)). l ++ more) first.parts)
        ∙ one_at first.before first.row first.behind more in
        let found : Contains whole first.row = subst (λ (l : List (List ℕ)). Contains l first.row) (sym (parts ∙ ap (λ (l : List (List ℕ)). l ++ more) first.parts))
        (Contains-append_left (first.before ++ first.row ∷ first.behind) more first.row
        (Contains-append_right first.before (first.row ∷ first.behind) first.row (zero, omega arith, refl))) in
        let other : Contains whole row = subst (λ (l : List (List ℕ)). Contains l row) (sym parts) (Contains-append_left examples more row there) in (
          (
            length first.before,
            first.number_is,
            subst (λ (o : Option (List ℕ)). IsSomeAnd o (λ row. MeetsThem d q horizon row × HasValue position value row)) (sym at)
                (are_examples whole are first.row found, first.has),
          ),
          (row, are_examples whole are row other, lacks),
        )
    so examples more parts position value answers.Impossible right = λ row meets. right row (history_of no_claim row meets)

    -- of the values of a position from this one on
    so_value : (examples more : List (List ℕ)) → whole ≡ examples ++ more → (position value : ℕ) (all : List Answer) →
        AreRightAnswers d q horizon examples position value all → (index : ℕ) → index < length all →
        IsSomeAnd (slice_get all index) (IsSo d q horizon whole position (value + index))
    so_value examples more parts position value [] right index below = absurd (omega arith)
    so_value examples more parts position value (answer ∷ others) (here, right) zero below =
        subst (λ (n : ℕ). IsSo d q horizon whole position n answer) (let e : value ≡ value + 0 = omega arith in e)
        (so examples more parts position value answer here)
    so_value examples more parts position value (answer ∷ others) (here, right) (suc index) below =
        subst (λ (n : ℕ). IsSomeAnd (slice_get others index) (IsSo d q horizon whole position n)) (let e : value + 1 + index ≡ value + suc index = omega arith in e)
        (so_value examples more parts position (value + 1) others right index (omega arith))

    abbrev pub IsAnswered : (position size : ℕ) → OfPosition → Type 0
    IsAnswered position size one = AllSo d q horizon whole position size one.answers

    -- of the positions from this one on
    pub so_position : (examples : List (List ℕ)) (position : ℕ) (done : List Settled) → whole ≡ examples ++ flat_map shown_at done →
        AreTrueSettled d q budget horizon examples position done → (index size : ℕ) → index < length done →
        slice_get (sizes_at d horizon) (position + index) ≡ Some size → IsSomeAnd (slice_get (map of_settled done) index) (IsAnswered (position + index) size)
    so_position examples position [] parts done index size below at = absurd (omega arith)
    so_position examples position (settled ∷ others) parts (is, done) zero size below at =
        let e : position + 0 ≡ position = omega arith in
        let same : Some (length settled.tried) ≡ Some size = sym is.all_tried ∙ ap (slice_get (sizes_at d horizon)) (sym e) ∙ at in
        let long : length settled.tried ≡ size = cc in
        let all = is.all_answered in
        subst (λ (n : ℕ). IsAnswered n size (of_settled settled)) (sym e) (
          all ∙ long,
          λ value low. subst (λ (n : ℕ). IsSomeAnd (slice_get settled.answers value) (IsSo d q horizon whole position n)) (let z : 0 + value ≡ value = omega arith in z)
              (so_value (examples ++ shown_at settled) (flat_map shown_at others) (parts ∙ sym (append_assoc examples (shown_at settled) (flat_map shown_at others)))
              position 0 settled.answers is.right value (omega arith)),
        )
    so_position examples position (settled ∷ others) parts (is, done) (suc index) size below at =
        let e : position + 1 + index ≡ position + suc index = omega arith in
        subst (λ (n : ℕ). IsSomeAnd (slice_get (map of_settled others) index) (IsAnswered n size)) e
        (so_position (examples ++ shown_at settled) (position + 1) others (parts ∙ sym (append_assoc examples (shown_at settled) (flat_map shown_at others)))
        done index size (omega arith) (ap (slice_get (sizes_at d horizon)) e ∙ at))

-- ---- what is printed of them

module _ (d : Description) (horizon : ℕ) where
  abbrev line : SureTold → List ℕ
  line = sure_line d horizon

  tried_out : (examples position value : ℕ) (tried : List Tried) → flat_map line (tried_told examples position value tried) ≡ examples_text d horizon (examples + 1) (shown_in tried)
  tried_out examples position value [] = refl
  tried_out examples position value (Known ∷ others) = tried_out examples position (value + 1) others
  tried_out examples position value (Shown row ∷ others) = ap (λ (l : List ℕ). line (ExampleIs (examples + 1) row) ++ l) (tried_out (examples + 1) position (value + 1) others)
  tried_out examples position value (Never section ∷ others) = tried_out examples position (value + 1) others

  settled_out : (examples position : ℕ) (done : List Settled) →
      flat_map line (settled_told examples position done) ≡ positions_text d horizon (examples + 1) position (map of_settled done)
  settled_out examples position [] = refl
  settled_out examples position (settled ∷ others) =
      let lines = answer_lines d position 0 settled.answers in
      let behind = settled_told (examples + length (shown_at settled)) (position + 1) others in
      flat_map-append line (tried_told examples position 0 settled.tried) (AnswersAre position settled.answers ∷ behind)
      ∙ sym (append_assoc (flat_map line (tried_told examples position 0 settled.tried)) lines (flat_map line behind))
      ∙ ap₂ (λ (a b : List ℕ). a ++ lines ++ b) (tried_out examples position 0 settled.tried) (settled_out (examples + length (shown_at settled)) (position + 1) others
      ∙ ap (λ (n : ℕ). positions_text d horizon n (position + 1) (map of_settled others))
      (let e : examples + length (shown_at settled) + 1 ≡ examples + 1 + length (shown_at settled) = omega arith in e))

  none_out : (least count : ℕ) → flat_map line (none_told least count) ≡ flat_map (λ step. of_horizon (least + step) (codes "no history")) (upto count)
  none_out least zero = refl
  none_out least (suc count) =
      let later : (step : ℕ) → least + 1 + step ≡ least + suc step = λ step. omega arith in
      ap₂ (λ (a b : List ℕ). a ++ b)
      (ap (λ (n : ℕ). of_horizon n (codes "no history")) (let e : least ≡ least + 0 = omega arith in e))
      (none_out (least + 1) count ∙ (λ i. flat_map (λ step. of_horizon (later step i) (codes "no history")) (upto count)))
      ∙ sym (up_front (λ step. of_horizon (least + step) (codes "no history")) count)

-- a run all of whose positions are done with
abbrev pub finished : (empty : ℕ) → (first : List ℕ) → List Settled → SureRun
finished empty first done = record { empty = empty; first = Some first; done = done; next = []; ending = Some Complete }

pub finished_out : (d : Description) (q : Query) (empty : ℕ) (first : List ℕ) (done : List Settled) →
    sure_text d q (finished empty first done) ≡ answers_text d q (sure_horizon q (finished empty first done)) first (map of_settled done)
finished_out d q empty first done =
    let least = (range_of q).0 in
    let horizon = sure_horizon q (finished empty first done) in
    let say = sure_line d horizon in
    let none = none_told least empty in
    let example = ExampleIs 1 first ∷ [] in
    let settled = settled_told 1 0 done in
    let last = Ends (sought_next (finished empty first done) (Some first)) Complete ∷ [] in
    let long : empty ≡ horizon - least = omega arith in
    let before = none_text q horizon ++ examples_text d horizon 1 (first ∷ []) ++ positions_text d horizon 2 0 (map of_settled done) in
    flat_map-append say (none ++ example ++ settled ++ []) last
    ∙ ap (λ (l : List ℕ). l ++ ending_line Complete)
    (ap (flat_map say) (append-nil (none ++ example ++ settled))
    ∙ flat_map-append say (none ++ example) settled
    ∙ ap₂ (λ (a b : List ℕ). a ++ b)
    (flat_map-append say none example
    ∙ ap (λ (l : List ℕ). l ++ examples_text d horizon 1 (first ∷ []))
    (none_out d horizon least empty ∙ ap (λ (n : ℕ). flat_map (λ step. of_horizon (least + step) (codes "no history")) (upto n)) long))
    (settled_out d horizon 1 0 done))
    ∙ sym (append_assoc before (codes "complete") (10 ∷ []))
