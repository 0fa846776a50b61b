-- What the words of each further mode name.
use Rattle.std.specs.Prelude.{ℕ, None, codes}
use Rattle.cc_describe.specs.Places.{Files}
use Rattle.cc_list.specs.Tasks.{Named}
use Rattle.cc_make.specs.Locks.{made_text}
use Rattle.cc_make.specs.Single.{each_is}
use Rattle.cc_words.specs.Requests.{Checking, Converting, SayingWhy, Exporting}
use Rattle.cc_words.specs.Words.{Text}

abbrev pub named_in : Checking → Named
named_in checking = record { file = checking.file; query = checking.query; after = checking.after }

-- a description alone
abbrev pub named_to : SayingWhy → Named
named_to saying = record { file = saying.file; query = None; after = None }

-- what is read and judged before it is converted
abbrev pub checked_by : Converting → Checking
checked_by converting = record { file = converting.file; query = converting.query; after = converting.after; log = converting.log }

abbrev pub named_from : Exporting → Named
named_from exporting = record { file = exporting.file; query = exporting.query; after = None }

-- a file that no description is read from
abbrev pub named_alone : Text → Named
named_alone file = record { file = file; query = None; after = None }

-- A made description of this size is read from files that are all it; it asks one query.
abbrev pub made_files : ℕ → Files
made_files size = each_is (made_text size)

abbrev pub made_named : Named
made_named = record { file = codes "made"; query = None; after = None }
