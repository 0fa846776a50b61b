-- How a search is told: each event as it comes, or a summary.
use Rattle.std.specs.Prelude.{ℕ, Bool, List, [], ◌∷◌}
use Rattle.cc_defs.specs.declared.event.Ending.{Ending}
use Rattle.cc_defs.specs.declared.event.Told.{Told}
use Rattle.cc_defs.specs.declared.log.Version.{Version}
use Rattle.cc_defs.specs.Description.{Description}
use Rattle.cc_defs.specs.Events.{out_text, log_of}
use Rattle.cc_defs.specs.LogTexts.{header}
use Rattle.cc_defs.specs.LogVersions.{header_of, log_in}
use Rattle.cc_print.specs.Summaries.{endings_told, summary}
use Rattle.cc_lists.specs.Subjects.{lines_of}

-- To Out each event as it comes, with a log in this version, where a section has so many axioms; or a summary at the end, as that of a
-- made description of a size, with a log in version 1.
pub data Manner : Type 0 where
  OneByOne : Version → (counts : Bool → ℕ → ℕ) → Manner
  Summed : (size : ℕ) → Manner

-- a summary, where a search has ended
abbrev pub summed : ℕ → List Told → List Ending → List ℕ
summed size told [] = []
summed size told (ending ∷ others) = summary size told

-- what a search gives to Out
abbrev pub out_told : Manner → Description → List Told → List ℕ
out_told (OneByOne version counts) d told = out_text d told
out_told (Summed size) d told = summed size told (endings_told told)

-- and to Log
abbrev pub log_told : Manner → List Told → List ℕ
log_told (OneByOne version counts) told = log_in version counts (lines_of told)
log_told (Summed size) told = log_of told

-- how that begins
abbrev pub header_told : Manner → List ℕ
header_told (OneByOne version counts) = header_of version
header_told (Summed size) = header
