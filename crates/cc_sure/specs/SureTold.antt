-- What a run on certain and possible atoms tells, in order: its events, and the lines of its log.
use Rattle.std.specs.Prelude.{ℕ, zero, suc, ◌+◌, false, List, [], ◌∷◌, ◌++◌, length, flat_map, map}
use Rattle.cc_defs.specs.declared.log.LogLine.TheVariants as lines
use Rattle.cc_defs.specs.LogTexts.{line_text}
use Rattle.cc_defs.specs.Resolved.{Query}
use Rattle.cc_defs.specs.Runs.{Section, optional, range_of}
use Rattle.cc_lists.specs.Sections.{section_lines}
use Rattle.cc_silent.specs.Sought.{Sought, Any, With}
use Rattle.cc_silent.specs.SureLogs.{atom_heading, sure_header}
use Rattle.cc_sure.specs.SureRuns.{Settled, SureEnding, Complete, NoneAtAll, Spent, SureRun, Tried, Known, Shown, Never, settled_examples, shown_at, sought_next, sure_horizon}
use Rattle.cc_sure.specs.declared.answer.Answer.{Answer}

-- A horizon has no history; a further example, with its number; an atom is impossible, by this section; the answers of a
-- position; or the run ends, with what was searched for last.
pub data SureTold : Type 0 where
  NoneAt : (horizon : ℕ) → SureTold
  ExampleIs : (number : ℕ) → (row : List ℕ) → SureTold
  NeverSo : (position value : ℕ) → Section → SureTold
  AnswersAre : (position : ℕ) → List Answer → SureTold
  Ends : Sought → SureEnding → SureTold

abbrev pub none_told : (horizon : ℕ) → (count : ℕ) → List SureTold
none_told horizon zero = []
none_told horizon (suc more) = NoneAt horizon ∷ none_told (horizon + 1) more

-- what is told of the values of a position from this one on, where so many examples were told before
abbrev pub tried_told : (examples : ℕ) → (position value : ℕ) → List Tried → List SureTold
tried_told examples position value [] = []
tried_told examples position value (Known ∷ others) = tried_told examples position (value + 1) others
tried_told examples position value (Shown row ∷ others) = ExampleIs (examples + 1) row ∷ tried_told (examples + 1) position (value + 1) others
tried_told examples position value (Never section ∷ others) = NeverSo position value section ∷ tried_told examples position (value + 1) others

-- the same of positions that are done with
abbrev pub settled_told : (examples : ℕ) → (position : ℕ) → List Settled → List SureTold
settled_told examples position [] = []
settled_told examples position (settled ∷ others) =
    tried_told examples position 0 settled.tried ++ AnswersAre position settled.answers
    ∷ settled_told (examples + length (shown_at settled)) (position + 1) others

abbrev pub sure_told : Query → SureRun → List SureTold
sure_told q run =
    none_told (range_of q).0 run.empty
    ++ map (ExampleIs 1) (optional run.first)
    ++ settled_told (length (optional run.first)) 0 run.done
    ++ tried_told (length (settled_examples run)) (length run.done) 0 run.next
    ++ map (Ends (sought_next run run.first)) (optional run.ending)

-- ---- the log: a header, and then for each impossible atom, and for a search that was spent, a heading and the lines of its section

-- that of a search
abbrev pub sought_heading : (horizon : ℕ) → Sought → List ℕ
sought_heading horizon Any = line_text (lines.Section false horizon)
sought_heading horizon (With position value) = atom_heading horizon position value

abbrev pub section_text : (horizon : ℕ) → Sought → Section → List ℕ
section_text horizon sought section = sought_heading horizon sought ++ flat_map line_text (section_lines section)

-- what an event adds to the log, where the run is at this horizon
abbrev pub sure_lines : (horizon : ℕ) → SureTold → List ℕ
sure_lines horizon (NoneAt empty) = []
sure_lines horizon (ExampleIs number row) = []
sure_lines horizon (NeverSo position value section) = section_text horizon (With position value) section
sure_lines horizon (AnswersAre position answers) = []
sure_lines horizon (Ends sought Complete) = []
sure_lines horizon (Ends sought NoneAtAll) = []
sure_lines horizon (Ends sought (Spent section)) = section_text horizon sought section

abbrev pub sure_log : Query → SureRun → List ℕ
sure_log q run = sure_header ++ flat_map (sure_lines (sure_horizon q run)) (sure_told q run)
