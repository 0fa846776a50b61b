-- What a run on every horizon tells, in order: its events, and the lines of its log.
use Rattle.std.specs.Prelude.{ℕ, ◌+◌, List, [], ◌∷◌, ◌++◌, flat_map, map}
use Rattle.cc_defs.specs.LogTexts.{line_text}
use Rattle.cc_defs.specs.Resolved.{Query}
use Rattle.cc_defs.specs.Runs.{Section, optional, range_of}
use Rattle.cc_forever.specs.ForeverRuns.{ForeverEnding, ForeverRun, Met, Proved, Spent, Unsettled, forever_horizon, sought_next, steps_failed}
use Rattle.cc_lists.specs.Sections.{section_lines}
use Rattle.cc_silent.specs.ForeverLogs.{forever_header, forever_heading}
use Rattle.cc_silent.specs.declared.forever.ForeverHeading.{ForeverHeading}
use Rattle.cc_silent.specs.declared.forever.ForeverHeading.TheVariants as headings

-- A horizon has no history, by this section; the induction over so many steps fails, or holds, by this section; a horizon has a
-- history, the least of which is this; the induction over so many steps is left open, and this is what its step has; or a search was
-- spent.
pub data ForeverTold : Type 0 where
  NoneAt : (horizon : ℕ) → Section → ForeverTold
  FailsOver : (steps : ℕ) → ForeverTold
  HoldsOver : (steps : ℕ) → Section → ForeverTold
  FoundAt : (horizon : ℕ) → (row : List ℕ) → ForeverTold
  LeftOpen : (steps : ℕ) → (row : List ℕ) → ForeverTold
  SpentIn : ForeverHeading → Section → ForeverTold

abbrev pub failed_told : (horizon steps : ℕ) → List Section → List ForeverTold
failed_told horizon steps [] = []
failed_told horizon steps (section ∷ sections) = NoneAt horizon section ∷ FailsOver steps ∷ failed_told (horizon + 1) (steps + 1) sections

abbrev pub ending_told : Query → ForeverRun → ForeverEnding → List ForeverTold
ending_told q run (Proved section) = HoldsOver (steps_failed run + 1) section ∷ []
ending_told q run (Met row) = FoundAt (forever_horizon q run) row ∷ []
ending_told q run Unsettled = map (LeftOpen (steps_failed run)) (optional run.example)
ending_told q run (Spent section) = SpentIn (sought_next q run) section ∷ []

abbrev pub forever_told : Query → ForeverRun → List ForeverTold
forever_told q run =
    failed_told (range_of q).0 1 run.failed
    ++ map (NoneAt (forever_horizon q run)) (optional run.next)
    ++ flat_map (ending_told q run) (optional run.ending)

-- ---- the log: a header, and then for each search that found nothing, and for one that was spent, a heading and the lines of its section

abbrev pub section_text : ForeverHeading → Section → List ℕ
section_text heading section = forever_heading heading ++ flat_map line_text (section_lines section)

abbrev pub forever_lines : ForeverTold → List ℕ
forever_lines (NoneAt horizon section) = section_text (headings.Horizon horizon) section
forever_lines (FailsOver steps) = []
forever_lines (HoldsOver steps section) = section_text (headings.Steps steps) section
forever_lines (FoundAt horizon row) = []
forever_lines (LeftOpen steps row) = []
forever_lines (SpentIn heading section) = section_text heading section

abbrev pub forever_log : Query → ForeverRun → List ℕ
forever_log q run = forever_header ++ flat_map forever_lines (forever_told q run)
