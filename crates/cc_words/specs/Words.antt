-- The words of the program: options with a value each, and a file.
use Rattle.std.specs.Prelude.{◌≡◌, ◌==◌, ◌&&◌, not, ℕ, Bool, true, false, List, [], ◌∷◌, ◌++◌, map, flat_map, codes, Option, Some, None, option_map, find}
use Rattle.std.specs.List.{list_any}
use Rattle.std.specs.Option.{option_map_or}
use Rattle.cc_defs.specs.Grammar.{same_text}

abbrev pub Text : Type 0
Text = List ℕ

-- the options
pub data Name : Type 0 where
  Mode : Name
  Query : Name
  Count : Name
  Budget : Name
  After : Name
  Log : Name
  Form : Name
  To : Name
  Key : Name
  Horizon : Name
  Size : Name

abbrev pub name_text : Name → Text
name_text Mode = codes "mode"
name_text Query = codes "query"
name_text Count = codes "count"
name_text Budget = codes "budget"
name_text After = codes "after"
name_text Log = codes "log"
name_text Form = codes "form"
name_text To = codes "to"
name_text Key = codes "key"
name_text Horizon = codes "horizon"
name_text Size = codes "size"

abbrev pub is_same : Name → Name → Bool
is_same name other = same_text (name_text name) (name_text other)

-- what words give: the value of each option that stands there, and the file
pub record Given : Type 0 where
  pub mode : Option Text
  pub query : Option Text
  pub count : Option Text
  pub budget : Option Text
  pub after : Option Text
  pub log : Option Text
  pub form : Option Text
  pub to : Option Text
  pub key : Option Text
  pub horizon : Option Text
  pub size : Option Text
  pub file : Option Text

-- ---- the plain form

-- an option with its value
abbrev pub Pair : Type 0
Pair = Name × Text

-- an option and its value as two words
abbrev pub pair_words : Pair → List Text
pair_words pair = (codes "--" ++ name_text pair.0) ∷ pair.1 ∷ []

abbrev pub file_words : Option Text → List Text
file_words None = []
file_words (Some file) = file ∷ []

abbrev pub begins_with_hyphen : Text → Bool
begins_with_hyphen [] = false
begins_with_hyphen (byte ∷ bytes) = byte == 45

-- no option stands twice
abbrev pub are_different : List Name → Bool
are_different [] = true
are_different (name ∷ names) = not (list_any (is_same name) names) && are_different names

-- the words are these options with their values, one after another, and then the file
pub record IsPlain (pairs : List Pair) (file : Option Text) (words : List Text) : Type 0 where
  pub spelled : words ≡ flat_map pair_words pairs ++ file_words file
  pub once : are_different (map (λ pair. pair.0) pairs) ≡ true
  pub values : list_any (λ pair. begins_with_hyphen pair.1) pairs ≡ false
  pub name : option_map_or begins_with_hyphen file false ≡ false

abbrev pub value_of : Name → List Pair → Option Text
value_of name pairs = option_map (λ pair. pair.1) (find (λ pair. is_same pair.0 name) pairs)

abbrev pub given_of : List Pair → Option Text → Given
given_of pairs file = record {
  mode = value_of Mode pairs;
  query = value_of Query pairs;
  count = value_of Count pairs;
  budget = value_of Budget pairs;
  after = value_of After pairs;
  log = value_of Log pairs;
  form = value_of Form pairs;
  to = value_of To pairs;
  key = value_of Key pairs;
  horizon = value_of Horizon pairs;
  size = value_of Size pairs;
  file = file;
}
