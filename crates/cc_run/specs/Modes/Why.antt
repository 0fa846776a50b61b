-- Why mode: a cause of each value of one history.
use Rattle.std.specs.Prelude.{◌≡◌, ◌≤◌, ◌⊎◌, ℕ, false, List, [], ◌∷◌, ◌++◌, codes, Some, None}
use Rattle.cc_defs.specs.declared.lists.Key.{Key}
use Rattle.cc_defs.specs.declared.refusal.Refusal.{Refusal}
use Rattle.cc_defs.specs.Description.{Description, sizes_at}
use Rattle.cc_defs.specs.Limits.{most_steps}
use Rattle.cc_defs.specs.Paths.{IsPath}
use Rattle.cc_defs.specs.Rows.{IsRow}
use Rattle.cc_describe.specs.declared.heads.Heads.TheVariants as heads
use Rattle.cc_describe.specs.Describing.{AreToOpen}
use Rattle.cc_describe.specs.FirstRefusal.{file_named}
use Rattle.cc_describe.specs.Places.{Files, Place, opened_in}
use Rattle.cc_ground.specs.Counting.{laws_refusal}
use Rattle.cc_print.specs.Keys.{IsKeyText}
use Rattle.cc_list.specs.Promises.{Promise, IsEndStatus}
use Rattle.cc_list.specs.Tasks.{AreRead, RefusesDescriptionFor, description_in, refusal_without_place}
use Rattle.cc_list.specs.Wholes.{Whole}
use Rattle.cc_tell.specs.declared.status.Status.{Status}
use Rattle.cc_tell.specs.declared.status.Status.TheVariants as statuses
use Rattle.cc_tell.specs.Givens.{only_out}
use Rattle.cc_tell_modes.specs.CauseTexts.{why_text}
use Rattle.cc_theory.specs.Theories.{rules_refusal}
use Rattle.cc_words.specs.Requests.{SayingWhy}
use Rattle.cc_words.specs.Words.{Text}

-- ---- the row that is named

-- The text is that of a key: of a row at a horizon of at most 1,000.
pub record IsRowNamed (d : Description) (text : Text) (key : Key) : Type 0 where
  pub spelled : IsKeyText text key
  pub most : key.horizon ≤ most_steps
  pub row : IsRow (sizes_at d key.horizon) key.row

abbrev pub HasNoRow : Description → Text → Type 0
HasNoRow d text = (key : Key) → IsRowNamed d text key → ⊥

-- ---- what is refused

-- 18 where the text names no row; else too many rules at its horizon
abbrev pub RefusesRowOf : Description → Text → Refusal → Type 0
RefusesRowOf d text refusal =
    (HasNoRow d text × (refusal ≡ refusal_without_place 18))
    ⊎ ((key : Key) × IsRowNamed d text key × (rules_refusal d key.horizon ≡ Some refusal))

-- Behind the description the refusal of its laws comes, then that of the row.
pub record RefusesRow (files : Files) (saying : SayingWhy) (refusal : Refusal) (file : Text) : Type 0 where
  pub places : List Place
  pub read : AreRead files saying.file places
  pub refused : let d = description_in places in
      ((laws_refusal d.universe d.laws ≡ Some refusal) × (file ≡ file_named (opened_in places) refusal))
      ⊎ ((laws_refusal d.universe d.laws ≡ None) × RefusesRowOf d saying.key refusal × (file ≡ []))

abbrev pub RefusesWhy : Files → SayingWhy → Refusal → Text → Type 0
RefusesWhy files saying refusal file =
    RefusesDescriptionFor heads.Definite files saying.file refusal file ⊎ RefusesRow files saying refusal file

-- ---- what is given

abbrev pub no_history_line : List ℕ
no_history_line = codes "not a history" ++ 10 ∷ []

-- The causes of its values, exactly where the row is a path; where it is none, that it is none.
abbrev pub IsToldWhy : Description → List Text → Key → Whole → Type 0
IsToldWhy d names key whole =
    (IsPath d key.horizon key.row × (whole.given ≡ only_out (why_text d names key.horizon key.row)) × (whole.ends ≡ Some statuses.Right))
    ⊎ ((IsPath d key.horizon key.row → ⊥) × (whole.given ≡ only_out no_history_line) × (whole.ends ≡ Some statuses.Not))

-- The row is named, nothing of what is named is refused, and it is explained.
pub record TellsWhy (saying : SayingWhy) (files : Files) (whole : Whole) : Type 0 where
  pub places : List Place
  pub read : AreRead files saying.file places
  pub laws : laws_refusal (description_in places).universe (description_in places).laws ≡ None
  pub key : Key
  pub row : IsRowNamed (description_in places) saying.key key
  pub rules : rules_refusal (description_in places) key.horizon ≡ None
  pub explained : IsToldWhy (description_in places) (opened_in places) key whole
  pub begun : whole.begun ≡ false

-- nothing is searched for
abbrev pub MayEndWhy : Status → Type 0
MayEndWhy statuses.Spent = ⊥
MayEndWhy statuses.Asked = ⊥
MayEndWhy status = IsEndStatus status

abbrev pub why_promise : SayingWhy → Promise
why_promise saying = record {
  Refuses = λ files. RefusesWhy files saying;
  Gives = TellsWhy saying;
  Opens = λ files. AreToOpen heads.Definite files saying.file;
  begins = λ _. None;
  MayEnd = MayEndWhy;
}
