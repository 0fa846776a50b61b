-- What the program is asked for.
use Rattle.std.specs.Prelude.{ℕ, Bool, true, ◌==◌, ◌&&◌, not, nat_le, if◌then◌else◌, List, [], ◌∷◌, length, codes, Option, Some, None, option_map, is_some, unwrap_or, ◌≤◌, IfSome}
use Rattle.std.specs.List.{list_all, list_any}
use Rattle.std.specs.Option.{option_map_or}
use Rattle.cc_defs.specs.declared.log.Version.{Version}
use Rattle.cc_defs.specs.declared.log.Version.TheVariants as versions
use Rattle.cc_defs.specs.Grammar.{number_of, same_text}
use Rattle.cc_defs.specs.Tokens.{is_number}
use Rattle.cc_words.specs.declared.modes.Item.{Item}
use Rattle.cc_words.specs.declared.modes.Item.TheVariants as items
use Rattle.cc_words.specs.declared.modes.Mode.{Mode}
use Rattle.cc_words.specs.declared.modes.Mode.TheVariants as modes
use Rattle.cc_words.specs.Words.{Given, Text}

-- histories of a query
pub record Listing : Type 0 where
  pub file : Text
  pub query : Option Text
  pub count : Option ℕ
  pub budget : ℕ
  pub after : Option Text
  pub log : Option Text
  pub form : Version

-- whether a log is right
pub record Checking : Type 0 where
  pub file : Text
  pub query : Option Text
  pub after : Option Text
  pub log : Text

-- why a row has its values
pub record SayingWhy : Type 0 where
  pub file : Text
  pub key : Text

-- a log in its other version, in a file
pub record Converting : Type 0 where
  pub file : Text
  pub query : Option Text
  pub after : Option Text
  pub log : Text
  pub to : Text

-- the clause list of a horizon of a query
pub record Exporting : Type 0 where
  pub file : Text
  pub query : Option Text
  pub horizon : ℕ

-- the models of a CNF
pub record Modelling : Type 0 where
  pub file : Text
  pub count : Option ℕ
  pub budget : ℕ
  pub log : Option Text
  pub form : Version

-- whether a log of models is right
pub record ModelChecking : Type 0 where
  pub file : Text
  pub log : Text

-- what is certain, possible and impossible
pub record Surely : Type 0 where
  pub file : Text
  pub query : Option Text
  pub budget : ℕ
  pub log : Option Text

-- whether a log of impossible atoms is right
pub record SureChecking : Type 0 where
  pub file : Text
  pub query : Option Text
  pub log : Text

-- histories by the definition of a model itself, where heads may be of any form
pub record Generally : Type 0 where
  pub file : Text
  pub query : Option Text
  pub count : Option ℕ
  pub budget : ℕ
  pub log : Option Text

-- whether a log of rivals is right
pub record GeneralChecking : Type 0 where
  pub file : Text
  pub query : Option Text
  pub log : Text

-- whether a claim holds, or there is no history, at every horizon
pub record Proving : Type 0 where
  pub file : Text
  pub query : Option Text
  pub budget : ℕ
  pub log : Option Text

-- whether a log of an induction over horizons is right
pub record ForeverChecking : Type 0 where
  pub file : Text
  pub query : Option Text
  pub log : Text

pub data Request : Type 0 where
  ToList : Listing → Request
  ToCheck : Checking → Request
  -- a description of this size that has a history found within this budget
  ToMake : ℕ → ℕ → Request
  ToSayWhy : SayingWhy → Request
  ToConvert : Converting → Request
  ToExport : Exporting → Request
  ToModel : Modelling → Request
  ToCheckModels : ModelChecking → Request
  ToBeSure : Surely → Request
  ToCheckSure : SureChecking → Request
  ToListGenerally : Generally → Request
  ToCheckGeneral : GeneralChecking → Request
  ToProve : Proving → Request
  ToCheckForever : ForeverChecking → Request

-- its numbers are within their bounds
abbrev pub IsWithin : Request → Type 0
IsWithin (ToList listing) = IfSome listing.count (λ count. 1 ≤ count) × (listing.budget ≤ 2000000)
IsWithin (ToCheck checking) = Unit {0}
IsWithin (ToMake size budget) = (1 ≤ size) × (budget ≤ 2000000)
IsWithin (ToSayWhy saying) = Unit {0}
IsWithin (ToConvert converting) = Unit {0}
IsWithin (ToExport exporting) = Unit {0}
IsWithin (ToModel modelling) = IfSome modelling.count (λ count. 1 ≤ count) × (modelling.budget ≤ 2000000)
IsWithin (ToCheckModels checking) = Unit {0}
IsWithin (ToBeSure surely) = surely.budget ≤ 2000000
IsWithin (ToCheckSure checking) = Unit {0}
IsWithin (ToListGenerally generally) = IfSome generally.count (λ count. 1 ≤ count) × (generally.budget ≤ 2000000)
IsWithin (ToCheckGeneral checking) = Unit {0}
IsWithin (ToProve proving) = proving.budget ≤ 2000000
IsWithin (ToCheckForever checking) = Unit {0}

-- ---- values

abbrev pub mode_named : Text → Option Mode
mode_named text =
    if same_text text (codes "list") then Some modes.List
    else (if same_text text (codes "check") then Some modes.Check
    else (if same_text text (codes "make") then Some modes.Make
    else (if same_text text (codes "why") then Some modes.Why
    else (if same_text text (codes "convert") then Some modes.Convert
    else (if same_text text (codes "export") then Some modes.Export
    else (if same_text text (codes "models") then Some modes.Models
    else (if same_text text (codes "modelscheck") then Some modes.CheckModels
    else (if same_text text (codes "sure") then Some modes.Sure
    else (if same_text text (codes "surecheck") then Some modes.CheckSure
    else (if same_text text (codes "general") then Some modes.General
    else (if same_text text (codes "generalcheck") then Some modes.CheckGeneral
    else (if same_text text (codes "forever") then Some modes.Forever
    else (if same_text text (codes "forevercheck") then Some modes.CheckForever else None)))))))))))))

-- the number from 1 to `most` that one to seven decimal digits spell
abbrev pub number_up_to : ℕ → Text → Option ℕ
number_up_to most text =
    if (is_number text && nat_le (length text) 7) && (nat_le 1 (number_of text) && nat_le (number_of text) most)
    then Some (number_of text) else None

-- the number that one to seven decimal digits spell
abbrev pub number_from_zero : Text → Option ℕ
number_from_zero text = if is_number text && nat_le (length text) 7 then Some (number_of text) else None

-- the version of a log that a digit names
abbrev pub version_named : Text → Option Version
version_named text =
    if same_text text (codes "1") then Some versions.First
    else (if same_text text (codes "2") then Some versions.Second else None)

-- a value that may be left out
abbrev pub optional : {X : Type 0} → (Text → Option X) → Option Text → Option (Option X)
optional form None = Some None
optional form (Some text) = option_map (λ x. Some x) (form text)

-- ---- which words go with which mode

-- what a mode needs
abbrev pub needs : Mode → List Item
needs modes.List = items.File ∷ []
needs modes.Check = items.File ∷ items.Log ∷ []
needs modes.Make = items.Size ∷ []
needs modes.Why = items.File ∷ items.Key ∷ []
needs modes.Convert = items.File ∷ items.Log ∷ items.To ∷ []
needs modes.Export = items.File ∷ items.Horizon ∷ []
needs modes.Models = items.File ∷ []
needs modes.CheckModels = items.File ∷ items.Log ∷ []
needs modes.Sure = items.File ∷ []
needs modes.CheckSure = items.File ∷ items.Log ∷ []
needs modes.General = items.File ∷ []
needs modes.CheckGeneral = items.File ∷ items.Log ∷ []
needs modes.Forever = items.File ∷ []
needs modes.CheckForever = items.File ∷ items.Log ∷ []

-- and what it bars
abbrev pub bars : Mode → List Item
bars modes.List = items.To ∷ items.Key ∷ items.Horizon ∷ items.Size ∷ []
bars modes.Check =
    items.Count ∷ items.Budget ∷ items.Form ∷ items.To ∷ items.Key ∷ items.Horizon ∷ items.Size ∷ []
bars modes.Make =
    items.Query ∷ items.Count ∷ items.After ∷ items.Log ∷ items.Form ∷ items.To ∷ items.Key ∷ items.Horizon ∷ items.File ∷ []
bars modes.Why =
    items.Query ∷ items.Count ∷ items.Budget ∷ items.After ∷ items.Log ∷ items.Form ∷ items.To ∷ items.Horizon ∷ items.Size ∷ []
bars modes.Convert = items.Count ∷ items.Budget ∷ items.Form ∷ items.Key ∷ items.Horizon ∷ items.Size ∷ []
bars modes.Export =
    items.Count ∷ items.Budget ∷ items.After ∷ items.Log ∷ items.Form ∷ items.To ∷ items.Key ∷ items.Size ∷ []
bars modes.Models = items.Query ∷ items.After ∷ items.To ∷ items.Key ∷ items.Horizon ∷ items.Size ∷ []
bars modes.CheckModels =
    items.Query ∷ items.Count ∷ items.Budget ∷ items.After ∷ items.Form ∷ items.To ∷ items.Key ∷ items.Horizon ∷ items.Size ∷ []
bars modes.Sure = items.Count ∷ items.After ∷ items.Form ∷ items.To ∷ items.Key ∷ items.Horizon ∷ items.Size ∷ []
bars modes.CheckSure =
    items.Count ∷ items.Budget ∷ items.After ∷ items.Form ∷ items.To ∷ items.Key ∷ items.Horizon ∷ items.Size ∷ []
bars modes.General = items.After ∷ items.Form ∷ items.To ∷ items.Key ∷ items.Horizon ∷ items.Size ∷ []
bars modes.CheckGeneral =
    items.Count ∷ items.Budget ∷ items.After ∷ items.Form ∷ items.To ∷ items.Key ∷ items.Horizon ∷ items.Size ∷ []
bars modes.Forever = items.Count ∷ items.After ∷ items.Form ∷ items.To ∷ items.Key ∷ items.Horizon ∷ items.Size ∷ []
bars modes.CheckForever =
    items.Count ∷ items.Budget ∷ items.After ∷ items.Form ∷ items.To ∷ items.Key ∷ items.Horizon ∷ items.Size ∷ []

abbrev pub has : Given → Item → Bool
has given items.Query = is_some given.query
has given items.Count = is_some given.count
has given items.Budget = is_some given.budget
has given items.After = is_some given.after
has given items.Log = is_some given.log
has given items.Form = is_some given.form
has given items.To = is_some given.to
has given items.Key = is_some given.key
has given items.Horizon = is_some given.horizon
has given items.Size = is_some given.size
has given items.File = is_some given.file

abbrev pub suits : Mode → Given → Bool
suits mode given = list_all (has given) (needs mode) && not (list_any (has given) (bars mode))

-- ---- the values of a mode

abbrev pub provided : {X Y : Type 0} → Option X → (X → Option Y) → Option Y
provided None make = None
provided (Some x) make = make x

abbrev pub default_budget : ℕ
default_budget = 200000

abbrev pub count_of : Given → Option (Option ℕ)
count_of given = optional (number_up_to 1000000) given.count

abbrev pub budget_of : Given → Option ℕ
budget_of given = option_map (λ budget. unwrap_or budget default_budget) (optional (number_up_to 2000000) given.budget)

-- the version of the log that is to be written: the first, unless the second is asked for
abbrev pub form_of : Given → Option Version
form_of given = option_map (λ form. unwrap_or form versions.First) (optional version_named given.form)

abbrev pub to_list : Given → Option Request
to_list given =
    provided given.file (λ file. provided (count_of given) (λ count. provided (budget_of given) (λ budget. provided (form_of given) (λ form.
    Some (ToList (record {
      file = file;
      query = given.query;
      count = count;
      budget = budget;
      after = given.after;
      log = given.log;
      form = form;
    }))))))

abbrev pub to_check : Given → Option Request
to_check given = provided given.file (λ file. provided given.log (λ log. Some (ToCheck (record {
  file = file;
  query = given.query;
  after = given.after;
  log = log;
}))))

abbrev pub to_make : Given → Option Request
to_make given =
    provided given.size (λ text. provided (number_up_to 100 text) (λ size. provided (budget_of given) (λ budget. Some (ToMake size budget))))

abbrev pub to_say_why : Given → Option Request
to_say_why given = provided given.file (λ file. provided given.key (λ key. Some (ToSayWhy (record { file = file; key = key }))))

abbrev pub to_convert : Given → Option Request
to_convert given = provided given.file (λ file. provided given.log (λ log. provided given.to (λ to. Some (ToConvert (record {
  file = file;
  query = given.query;
  after = given.after;
  log = log;
  to = to;
})))))

abbrev pub to_export : Given → Option Request
to_export given = provided given.file (λ file. provided given.horizon (λ text. provided (number_from_zero text) (λ horizon.
    Some (ToExport (record { file = file; query = given.query; horizon = horizon })))))

abbrev pub to_model : Given → Option Request
to_model given =
    provided given.file (λ file. provided (count_of given) (λ count. provided (budget_of given) (λ budget. provided (form_of given) (λ form.
    Some (ToModel (record { file = file; count = count; budget = budget; log = given.log; form = form }))))))

abbrev pub to_check_models : Given → Option Request
to_check_models given = provided given.file (λ file. provided given.log (λ log. Some (ToCheckModels (record { file = file; log = log }))))

abbrev pub to_be_sure : Given → Option Request
to_be_sure given = provided given.file (λ file. provided (budget_of given) (λ budget.
    Some (ToBeSure (record { file = file; query = given.query; budget = budget; log = given.log }))))

abbrev pub to_check_sure : Given → Option Request
to_check_sure given =
    provided given.file (λ file. provided given.log (λ log. Some (ToCheckSure (record { file = file; query = given.query; log = log }))))

abbrev pub to_list_generally : Given → Option Request
to_list_generally given = provided given.file (λ file. provided (count_of given) (λ count. provided (budget_of given) (λ budget.
    Some (ToListGenerally (record { file = file; query = given.query; count = count; budget = budget; log = given.log })))))

abbrev pub to_check_general : Given → Option Request
to_check_general given =
    provided given.file (λ file. provided given.log (λ log. Some (ToCheckGeneral (record { file = file; query = given.query; log = log }))))

abbrev pub to_prove : Given → Option Request
to_prove given = provided given.file (λ file. provided (budget_of given) (λ budget.
    Some (ToProve (record { file = file; query = given.query; budget = budget; log = given.log }))))

abbrev pub to_check_forever : Given → Option Request
to_check_forever given =
    provided given.file (λ file. provided given.log (λ log. Some (ToCheckForever (record { file = file; query = given.query; log = log }))))

abbrev pub valued : Mode → Given → Option Request
valued modes.List given = to_list given
valued modes.Check given = to_check given
valued modes.Make given = to_make given
valued modes.Why given = to_say_why given
valued modes.Convert given = to_convert given
valued modes.Export given = to_export given
valued modes.Models given = to_model given
valued modes.CheckModels given = to_check_models given
valued modes.Sure given = to_be_sure given
valued modes.CheckSure given = to_check_sure given
valued modes.General given = to_list_generally given
valued modes.CheckGeneral given = to_check_general given
valued modes.Forever given = to_prove given
valued modes.CheckForever given = to_check_forever given

-- what is asked for in a mode, where the words suit it
abbrev pub asked_in : Mode → Given → Option Request
asked_in mode given = if suits mode given then valued mode given else None

abbrev pub mode_of : Given → Option Mode
mode_of given = option_map (λ mode. unwrap_or mode modes.List) (optional mode_named given.mode)

-- whether a byte behind another is of no control character: of none of ASCII, and of none from U+0080 to U+009F, which are the byte 194
-- and one up to 159
abbrev pub is_shown : ℕ → ℕ → Bool
is_shown after byte = nat_le 32 byte && (not (byte == 127) && not (after == 194 && nat_le byte 159))

-- the same of all bytes behind one
abbrev pub are_shown : ℕ → Text → Bool
are_shown after [] = true
are_shown after (byte ∷ bytes) = is_shown after byte && are_shown byte bytes

-- the name of the file has no control character, since refusals and causes say it
abbrev pub has_plain_name : Given → Bool
has_plain_name given = option_map_or (are_shown 0) given.file true

abbrev pub asked_of : Given → Option Request
asked_of given = if has_plain_name given then provided (mode_of given) (λ mode. asked_in mode given) else None
