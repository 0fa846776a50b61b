-- What a command of clap reads from the words.
use Rattle.std.specs.Prelude.{true, List, [], ◌∷◌, ◌++◌, map, codes, Option, Some, None, if◌then◌else◌}
use Rattle.clap.specs.declared.builder.action.ArgAction.TheVariants as actions
use Rattle.clap.specs.Simple.{App, matches_of, new_rule, new_shape}
use Rattle.clap.specs.Walk.{Row, Rule, first_of}
use Rattle.clap.specs.Takes.{takes}
use Rattle.cc_words.specs.Words.{Given, Name, Text, name_text, Mode, Query, Count, Budget, After, Log, Form, To, Key, Horizon, Size}

-- an option that takes one value
abbrev pub option_rule : Text → Rule
option_rule name = record (new_rule name) { long = Some name; action = Some actions.Set }

abbrev pub file_text : Text
file_text = codes "FILE"

abbrev pub names : List Name
names = Mode ∷ Query ∷ Count ∷ Budget ∷ After ∷ Log ∷ Form ∷ To ∷ Key ∷ Horizon ∷ Size ∷ []

-- a command with no arguments and no option for help, for words without the program's name
abbrev pub bare_command : App
bare_command = record {
  top = record (new_shape (codes "ccalc")) { no_binary_name = true; disable_help_flag = true };
  subs = [];
}

-- the eleven options, and a file behind them or between
abbrev pub command : App
command = record bare_command {
  top = record bare_command.top { rules = map (λ name. option_rule (name_text name)) names ++ new_rule file_text ∷ [] };
}

abbrev pub given_in : List Row → Given
given_in rows = record {
  mode = first_of (codes "mode") rows;
  query = first_of (codes "query") rows;
  count = first_of (codes "count") rows;
  budget = first_of (codes "budget") rows;
  after = first_of (codes "after") rows;
  log = first_of (codes "log") rows;
  form = first_of (codes "form") rows;
  to = first_of (codes "to") rows;
  key = first_of (codes "key") rows;
  horizon = first_of (codes "horizon") rows;
  size = first_of (codes "size") rows;
  file = first_of file_text rows;
}

-- what the command gives of the words that it takes
abbrev pub reading : List Text → Option Given
reading words = if takes command words then Some (given_in (matches_of command words)) else None
