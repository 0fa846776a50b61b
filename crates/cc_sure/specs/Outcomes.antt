-- Which examples have an atom, and what is answered by it.
use Rattle.std.specs.Prelude.{◌≡◌, ◌≢◌, ℕ, ◌+◌, ◌<◌, Bool, true, false, List, [], ◌∷◌, Contains, length, slice_get, Some}
use Rattle.cc_sure.specs.declared.answer.Answer.{Answer}
use Rattle.cc_sure.specs.declared.answer.Answer.TheVariants as answers
use Rattle.cc_silent.specs.Sought.{HasValue}
use Rattle.cc_sure.specs.SureRuns.{IsFirstWith}

-- some example has the atom
abbrev pub SomeHas : List (List ℕ) → (position value : ℕ) → Type 0
SomeHas examples position value = (row : List ℕ) × Contains examples row × HasValue position value row

-- what is answered of a value of a position, where each value is had by an example or by no history
abbrev pub IsAnswerFor : (examples : List (List ℕ)) → (position : ℕ) → (never : List Bool) → (value : ℕ) → Answer → Type 0
IsAnswerFor examples position never value answers.Certain = (other : ℕ) → other < length never → other ≢ value → slice_get never other ≡ Some true
IsAnswerFor examples position never value (answers.Possible example) =
    IsFirstWith examples position value example × ((other : ℕ) × (other ≢ value) × (slice_get never other ≡ Some false))
IsAnswerFor examples position never value answers.Impossible = slice_get never value ≡ Some true

-- the same of the values from this one on
abbrev pub AreAnswersFor : (examples : List (List ℕ)) → (position : ℕ) → (never : List Bool) → (value : ℕ) → List Answer → Type 0
AreAnswersFor examples position never value [] = Unit {0}
AreAnswersFor examples position never value (answer ∷ others) =
    IsAnswerFor examples position never value answer × AreAnswersFor examples position never (value + 1) others
