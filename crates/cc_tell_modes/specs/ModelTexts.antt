-- What is told of the models of a CNF.
use Rattle.std.specs.Prelude.{◌+◌, ℕ, zero, suc, [], ◌∷◌, ◌++◌, List, length, flat_map, codes, decimal}
use Rattle.cc_defs.specs.declared.log.EndWord.{EndWord}
use Rattle.cc_defs.specs.declared.log.EndWord.TheVariants as words
use Rattle.cc_defs.specs.Runs.{Section, optional, rows_of}
use Rattle.cc_print.specs.Models.{model_line}
use Rattle.cc_tell.specs.declared.status.Status.{Status}
use Rattle.cc_tell.specs.declared.status.Status.TheVariants as statuses

-- the lines of models, numbered from this number on
abbrev pub model_lines : ℕ → List (List ℕ) → List ℕ
model_lines number [] = []
model_lines number (row ∷ rows) = model_line number row ++ model_lines (number + 1) rows

-- the line where all models were listed: how many they are, or that there is none
abbrev pub all_listed : (listed : ℕ) → List ℕ
all_listed zero = codes "no model" ++ 10 ∷ []
all_listed (suc more) = codes "complete, " ++ decimal (suc more) ++ codes " listed" ++ 10 ∷ []

-- the line of an end, with how many models were listed
abbrev pub models_end : (listed : ℕ) → EndWord → List ℕ
models_end listed words.Empty = all_listed listed
models_end listed words.Found = codes "asked number reached, " ++ decimal listed ++ codes " listed" ++ 10 ∷ []
models_end listed words.Spent = codes "budget spent, " ++ decimal listed ++ codes " listed" ++ 10 ∷ []

abbrev pub models_text : Section → List ℕ
models_text section = model_lines 1 (rows_of section) ++ flat_map (models_end (length (rows_of section))) (optional section.word)

abbrev pub status_of_all : (listed : ℕ) → Status
status_of_all zero = statuses.Not
status_of_all (suc more) = statuses.Right

abbrev pub models_status : (listed : ℕ) → EndWord → Status
models_status listed words.Empty = status_of_all listed
models_status listed words.Found = statuses.Asked
models_status listed words.Spent = statuses.Spent
