-- What is told of an event of a run on certain and possible atoms.
use Rattle.std.specs.Prelude.{◌+◌, ℕ, List, [], ◌∷◌, ◌++◌, flat_map, length, codes, decimal, Option, Some, None, ◌<◌, ◌≤◌, false}
use Rattle.std.specs.List.{AllByRecursion}
use Rattle.cc_defs.specs.declared.log.LogLine.TheVariants as lines
use Rattle.cc_defs.specs.Description.{Description, sizes_at}
use Rattle.cc_defs.specs.Events.{of_horizon}
use Rattle.cc_defs.specs.Texts.{history_text, key_line}
use Rattle.cc_defs.specs.Conditions.{IsSignatureOfDescription}
use Rattle.cc_defs.specs.Limits.{most_variables}
use Rattle.cc_defs.specs.LogTexts.{IsFormed, line_text}
use Rattle.cc_defs.specs.Rows.{IsRow}
use Rattle.cc_defs.specs.Signatures.{Signature}
use Rattle.cc_ports.specs.declared.desk.To.TheVariants as outputs
use Rattle.cc_print.specs.Atoms.{atom_text, IsAtomOf}
use Rattle.cc_sure.specs.declared.answer.Answer.{Answer}
use Rattle.cc_sure.specs.declared.answer.Answer.TheVariants as answers
use Rattle.cc_sure.specs.declared.turn.SureTurn.{SureTurn}
use Rattle.cc_sure.specs.declared.turn.SureTurn.TheVariants as events
use Rattle.cc_sure.specs.SureRuns.{SureEnding, Complete, NoneAtAll, Spent}
use Rattle.cc_silent.specs.SureLogs.{atom_heading}
use Rattle.cc_tell.specs.declared.status.Status.{Status}
use Rattle.cc_tell.specs.declared.status.Status.TheVariants as statuses
use Rattle.cc_tell.specs.Givens.{given_to, Given}

abbrev pub answer_words : Answer → List ℕ
answer_words answers.Certain = codes " certain"
answer_words (answers.Possible example) = codes " possible, example " ++ decimal example
answer_words answers.Impossible = codes " impossible"

-- the answers of a position, a line each, from this value on
abbrev pub answer_lines : Description → (position value : ℕ) → List Answer → List ℕ
answer_lines d position value [] = []
answer_lines d position value (answer ∷ others) =
    atom_text d position value ++ answer_words answer ++ 10 ∷ answer_lines d position (value + 1) others

abbrev pub ending_line : SureEnding → List ℕ
ending_line Complete = codes "complete" ++ 10 ∷ []
ending_line NoneAtAll = codes "no history" ++ 10 ∷ []
ending_line (Spent section) = codes "budget spent" ++ 10 ∷ []

-- the heading of a search: of an atom at a horizon, or of a horizon
abbrev pub heading_of : (horizon : ℕ) → Option (ℕ × ℕ) → List ℕ
heading_of horizon None = line_text (lines.Section false horizon)
heading_of horizon (Some atom) = atom_heading horizon atom.0 atom.1

-- what is given of an event, where the run is at this horizon
abbrev pub given_of : Description → (horizon : ℕ) → SureTurn → Given
given_of d horizon (events.NoHistory empty) = given_to outputs.Out (of_horizon empty (codes "no history"))
given_of d horizon (events.Example number row) =
    given_to outputs.Out (of_horizon horizon (codes "example " ++ decimal number) ++ (history_text d horizon row ++ key_line horizon row))
given_of d horizon (events.Impossible position value lines) =
    given_to outputs.Log (heading_of horizon (Some (position, value)) ++ flat_map line_text lines)
given_of d horizon (events.Answers position answers) = given_to outputs.Out (answer_lines d position 0 answers)
given_of d horizon events.Complete = given_to outputs.Out (ending_line Complete)
given_of d horizon events.NoneAtAll = given_to outputs.Out (ending_line NoneAtAll)
given_of d horizon (events.Spent atom lines) =
    record { out = codes "budget spent" ++ 10 ∷ []; err = []; log = heading_of horizon atom ++ flat_map line_text lines }

-- its row, its atoms and its lines can be printed
abbrev pub IsPrintable : Signature → (horizon : ℕ) → SureTurn → Type 0
IsPrintable signature horizon (events.NoHistory empty) = Unit {0}
IsPrintable signature horizon (events.Example number row) = (d : Description) → IsSignatureOfDescription d signature → IsRow (sizes_at d horizon) row
IsPrintable signature horizon (events.Impossible position value lines) = AllByRecursion IsFormed lines
IsPrintable signature horizon (events.Answers position answers) =
    (length answers ≤ most_variables) × ((value : ℕ) → value < length answers → IsAtomOf signature position value)
IsPrintable signature horizon events.Complete = Unit {0}
IsPrintable signature horizon events.NoneAtAll = Unit {0}
IsPrintable signature horizon (events.Spent atom lines) = AllByRecursion IsFormed lines

-- the status of a run whose last event this is; none where more is to come
abbrev pub status_behind : SureTurn → Option Status
status_behind (events.NoHistory empty) = None
status_behind (events.Example number row) = None
status_behind (events.Impossible position value lines) = None
status_behind (events.Answers position answers) = None
status_behind events.Complete = Some statuses.Right
status_behind events.NoneAtAll = Some statuses.Not
status_behind (events.Spent atom lines) = Some statuses.Spent
