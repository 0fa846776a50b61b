-- What is certain, possible and impossible at the first horizon that has a history, and how a run tells it: which runs are fair.
use Rattle.std.specs.Prelude.{◌≡◌, ℕ, ◌+◌, ◌<◌, ◌≤◌, List, [], ◌∷◌, ◌++◌, length, flat_map, Option, Some, None, IsSome, IsNone, IfSome, Contains, slice_get}
use Rattle.std.specs.List.{AllByRecursion}
use Rattle.cc_defs.specs.declared.log.EndWord.TheVariants as words
use Rattle.cc_defs.specs.declared.refusal.Refusal.{Refusal}
use Rattle.cc_defs.specs.Description.{Description, sizes_at}
use Rattle.cc_defs.specs.Histories.{AreFirst, AreFirstOf, IsHistory}
use Rattle.cc_defs.specs.Resolved.{Query}
use Rattle.cc_defs.specs.Runs.{EndsWith, HasNone, Section, TellsRows, optional, range_of, rows_of}
use Rattle.cc_silent.specs.Sought.{HasValue, IsAtomAt, IsSought, PassesNoLimit, Sought, Any, With, sought_axioms, sought_refusal}
use Rattle.cc_sure.specs.declared.answer.Answer.{Answer}
use Rattle.cc_sure.specs.declared.answer.Answer.TheVariants as answers

-- ---- the answers

-- the example of this number, from 1, is the first that has the atom
pub record IsFirstWith (examples : List (List ℕ)) (position value number : ℕ) : Type 0 where
  pub before : List (List ℕ)
  pub row : List ℕ
  pub behind : List (List ℕ)
  pub parts : examples ≡ before ++ row ∷ behind
  pub number_is : number ≡ length before + 1
  pub has : HasValue position value row
  pub others : AllByRecursion (λ other. HasValue position value other → ⊥) before

-- some example has not the atom
abbrev pub IsLackedBy : (examples : List (List ℕ)) → (position value : ℕ) → Type 0
IsLackedBy examples position value = (row : List ℕ) × Contains examples row × (HasValue position value row → ⊥)

-- Certain: every history has the atom. Possible: some history has it and another has not, and both are among the examples; the
-- number is that of the first that has it. Impossible: no history has it.
abbrev pub IsRightAnswer : Description → Query → (horizon : ℕ) → (examples : List (List ℕ)) → (position value : ℕ) → Answer → Type 0
IsRightAnswer d q horizon examples position value answers.Certain = (row : List ℕ) → IsHistory d q horizon None row → HasValue position value row
IsRightAnswer d q horizon examples position value (answers.Possible example) =
    IsFirstWith examples position value example × IsLackedBy examples position value
IsRightAnswer d q horizon examples position value answers.Impossible =
    (row : List ℕ) → IsHistory d q horizon None row → HasValue position value row → ⊥

-- those of the values of a position, from this one on
abbrev pub AreRightAnswers : Description → Query → (horizon : ℕ) → (examples : List (List ℕ)) → (position value : ℕ) → List Answer → Type 0
AreRightAnswers d q horizon examples position value [] = Unit {0}
AreRightAnswers d q horizon examples position value (answer ∷ others) =
    IsRightAnswer d q horizon examples position value answer × AreRightAnswers d q horizon examples position (value + 1) others

-- ---- the shape of what is told

-- What came of a value of a position: an example had it already; a further example was found, which has it; or no history has
-- it, as this section shows.
pub data Tried : Type 0 where
  Known : Tried
  Shown : (row : List ℕ) → Tried
  Never : Section → Tried

-- a position that is done with: what came of each of its values, and what is answered of each
pub record Settled : Type 0 where
  pub tried : List Tried
  pub answers : List Answer

-- All positions are done with; no horizon has a history; or this search was spent.
pub data SureEnding : Type 0 where
  Complete : SureEnding
  NoneAtAll : SureEnding
  Spent : Section → SureEnding

-- A run so far: how many horizons, from the first of the range on, have no history; the first example, at the horizon behind
-- them; the positions that are done with, in order; what came of the values of the next one; and the ending, where it has come.
pub record SureRun : Type 0 where
  pub empty : ℕ
  pub first : Option (List ℕ)
  pub done : List Settled
  pub next : List Tried
  pub ending : Option SureEnding

-- the examples that it brings
abbrev pub shown_by : Tried → List (List ℕ)
shown_by Known = []
shown_by (Shown row) = row ∷ []
shown_by (Never section) = []

abbrev pub shown_in : List Tried → List (List ℕ)
shown_in tried = flat_map shown_by tried

abbrev pub shown_at : Settled → List (List ℕ)
shown_at settled = shown_in settled.tried

-- all examples, in the order in which they are told
abbrev pub settled_examples : SureRun → List (List ℕ)
settled_examples run = optional run.first ++ flat_map shown_at run.done

abbrev pub examples_of : SureRun → List (List ℕ)
examples_of run = settled_examples run ++ shown_in run.next

-- ---- runs that tell the truth

-- a section that looks for one row of a kind, and tells none; its axioms pass no limit
pub record LooksFor (d : Description) (q : Query) (budget horizon : ℕ) (sought : Sought) (section : Section) : Type 0 where
  pub within : PassesNoLimit d q horizon sought
  pub tells : TellsRows (IsSought d q horizon sought) (sought_axioms d q horizon sought) (Some 1) budget section
  pub silent : rows_of section ≡ []

-- no example has the atom yet
abbrev pub IsNew : (examples : List (List ℕ)) → (position value : ℕ) → Type 0
IsNew examples position value = AllByRecursion (λ row. HasValue position value row → ⊥) examples

-- A search is made only where no example has the atom, and a further example is the least history that has it.
abbrev pub IsTrueTried : Description → Query → (budget horizon : ℕ) → (examples : List (List ℕ)) → (position value : ℕ) → Tried → Type 0
IsTrueTried d q budget horizon examples position value Known = (row : List ℕ) × Contains examples row × HasValue position value row
IsTrueTried d q budget horizon examples position value (Shown row) =
    IsNew examples position value × AreFirstOf (IsSought d q horizon (With position value)) (row ∷ []) × PassesNoLimit d q horizon (With position value)
IsTrueTried d q budget horizon examples position value (Never section) =
    IsNew examples position value × LooksFor d q budget horizon (With position value) section × EndsWith words.Empty section

-- what came of values of a position, from this one on, where these examples were there before: each is one that it has
abbrev pub AreTrueTried : Description → Query → (budget horizon : ℕ) → (examples : List (List ℕ)) → (position value : ℕ) → List Tried → Type 0
AreTrueTried d q budget horizon examples position value [] = Unit {0}
AreTrueTried d q budget horizon examples position value (tried ∷ others) =
    IsAtomAt d horizon position value × IsTrueTried d q budget horizon examples position value tried
    × AreTrueTried d q budget horizon (examples ++ shown_by tried) position (value + 1) others

-- a position is done with: each of its values was tried, and each answer is right
pub record IsTrueSettled (d : Description) (q : Query) (budget horizon : ℕ) (examples : List (List ℕ)) (position : ℕ) (settled : Settled) : Type 0 where
  pub each : AreTrueTried d q budget horizon examples position 0 settled.tried
  pub all_tried : slice_get (sizes_at d horizon) position ≡ Some (length settled.tried)
  pub right : AreRightAnswers d q horizon (examples ++ shown_at settled) position 0 settled.answers
  pub all_answered : length settled.answers ≡ length settled.tried

abbrev pub AreTrueSettled : Description → Query → (budget horizon : ℕ) → (examples : List (List ℕ)) → (position : ℕ) → List Settled → Type 0
AreTrueSettled d q budget horizon examples position [] = Unit {0}
AreTrueSettled d q budget horizon examples position (settled ∷ others) =
    IsTrueSettled d q budget horizon examples position settled
    × AreTrueSettled d q budget horizon (examples ++ shown_at settled) (position + 1) others

-- the horizon that a run is at
abbrev pub sure_horizon : Query → SureRun → ℕ
sure_horizon q run = (range_of q).0 + run.empty

-- what was searched for when a search was spent: a history, or one with the atom that was next
abbrev pub sought_next : SureRun → Option (List ℕ) → Sought
sought_next run None = Any
sought_next run (Some first) = With (length run.done) (length run.next)

-- an ending comes only then
abbrev pub MayEndSure : Description → Query → (budget : ℕ) → SureRun → SureEnding → Type 0
MayEndSure d q budget run Complete =
    IsSome run.first × (length run.done ≡ length (sizes_at d (sure_horizon q run))) × (run.next ≡ [])
MayEndSure d q budget run NoneAtAll = IsNone run.first × (sure_horizon q run ≡ (range_of q).1 + 1)
MayEndSure d q budget run (Spent section) =
    (sure_horizon q run ≤ (range_of q).1)
    × IfSome run.first (λ first. IsAtomAt d (sure_horizon q run) (length run.done) (length run.next) × IsNew (examples_of run) (length run.done) (length run.next))
    × LooksFor d q budget (sure_horizon q run) (sought_next run run.first) section × EndsWith words.Spent section

-- Where a run stands, a search is made: for the first history of a horizon of the range, or for one that has an atom which no
-- example has.
pub record IsToSearch (d : Description) (q : Query) (run : SureRun) : Type 0 where
  pub open_yet : IsNone run.ending
  pub horizon : sure_horizon q run ≤ (range_of q).1
  pub atom : IfSome run.first (λ first. IsAtomAt d (sure_horizon q run) (length run.done) (length run.next) × IsNew (examples_of run) (length run.done) (length run.next))

-- the run comes to a search whose axioms pass this limit, where it may first go over values that an example has
pub record ReachesSureLimit (d : Description) (q : Query) (budget : ℕ) (run : SureRun) (refusal : Refusal) : Type 0 where
  pub known : List Tried
  pub each : AllByRecursion (λ tried. tried ≡ Known) known
  pub fair : AreTrueTried d q budget (sure_horizon q run) (settled_examples run) (length run.done) 0 (run.next ++ known)
  pub search : IsToSearch d q (record run { next = run.next ++ known })
  pub limit : sought_refusal d q (sure_horizon q run) (sought_next (record run { next = run.next ++ known }) run.first) ≡ Some refusal

-- A run tells the truth: horizons that are told to have no history have none; the first example is the least history of the next
-- horizon; examples and answers are right, position by position; and it ends only as it may.
pub record IsFairSure (d : Description) (q : Query) (budget : ℕ) (run : SureRun) : Type 0 where
  pub claim : IsNone q.claim
  pub none : (horizon : ℕ) → (range_of q).0 ≤ horizon → horizon < sure_horizon q run → HasNone d q horizon × PassesNoLimit d q horizon Any
  pub within : sure_horizon q run ≤ (range_of q).1 + 1
  pub first : IfSome run.first (λ row. (sure_horizon q run ≤ (range_of q).1) × AreFirst d q (sure_horizon q run) None (row ∷ []) × PassesNoLimit d q (sure_horizon q run) Any)
  pub begun : IsNone run.first → (run.done ≡ []) × (run.next ≡ [])
  pub done : AreTrueSettled d q budget (sure_horizon q run) (optional run.first) 0 run.done
  pub next : AreTrueTried d q budget (sure_horizon q run) (settled_examples run) (length run.done) 0 run.next
  pub ending : IfSome run.ending (MayEndSure d q budget run)
