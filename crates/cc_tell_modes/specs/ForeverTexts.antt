-- What is told of a turn of a run on every horizon, and of the verdict on its log.
use Rattle.std.specs.Prelude.{ℕ, Bool, true, false, if◌then◌else◌, List, [], ◌∷◌, ◌++◌, flat_map, codes, decimal, Option, Some, None}
use Rattle.cc_defs.specs.declared.event.Event.TheVariants as events
use Rattle.cc_defs.specs.declared.log.LogLine.{LogLine}
use Rattle.cc_defs.specs.Description.{Description}
use Rattle.cc_defs.specs.Events.{event_text}
use Rattle.cc_defs.specs.LogTexts.{cause_words, line_text}
use Rattle.cc_defs.specs.Texts.{history_text, key_line}
use Rattle.cc_forever.specs.declared.turn.ForeverTurn.{ForeverTurn}
use Rattle.cc_forever.specs.declared.turn.ForeverTurn.TheVariants as turns
use Rattle.cc_ports.specs.declared.desk.To.TheVariants as outputs
use Rattle.cc_silent.specs.ForeverLogs.{forever_heading}
use Rattle.cc_silent.specs.declared.forever.ForeverHeading.{ForeverHeading}
use Rattle.cc_silent.specs.declared.forever.ForeverHeading.TheVariants as headings
use Rattle.cc_silent.specs.declared.forever_verdict.ForeverVerdict.{ForeverVerdict}
use Rattle.cc_silent.specs.declared.forever_verdict.ForeverVerdict.TheVariants as verdicts
use Rattle.cc_tell.specs.declared.status.Status.{Status}
use Rattle.cc_tell.specs.declared.status.Status.TheVariants as statuses
use Rattle.cc_tell.specs.Givens.{given_to, Given}

-- ---- lines; `claim` is whether the query has one

-- a horizon has no history
abbrev pub none_line : (claim : Bool) → (horizon : ℕ) → List ℕ
none_line claim horizon = if claim then event_text (events.Holds horizon) else event_text (events.NoHistory horizon)

-- a horizon has a history
abbrev pub found_line : (claim : Bool) → (horizon : ℕ) → List ℕ
found_line claim horizon = if claim then event_text (events.Counterexample horizon) else event_text (events.History horizon 1)

-- how a run ends that has found one
abbrev pub met_line : (claim : Bool) → List ℕ
met_line claim = (if claim then codes "claim fails" else codes "history found") ++ 10 ∷ []

-- a line that speaks of the induction over so many steps
abbrev pub of_steps : ℕ → List ℕ → List ℕ
of_steps steps said = codes "induction over " ++ decimal steps ++ codes " steps: " ++ said ++ 10 ∷ []

-- how a run ends whose induction holds
abbrev pub proved_line : (claim : Bool) → (least : ℕ) → List ℕ
proved_line claim least =
    (if claim then codes "claim holds at every horizon from " else codes "no history at any horizon from ") ++ decimal least ++ codes " on" ++ 10 ∷ []

-- a history and its key
abbrev pub row_lines : Description → (horizon : ℕ) → List ℕ → List ℕ
row_lines d horizon row = history_text d horizon row ++ key_line horizon row

-- the lines of a section, behind its heading
abbrev pub lines_under : ForeverHeading → List LogLine → List ℕ
lines_under heading lines = forever_heading heading ++ flat_map line_text lines

-- ---- what is given of a turn, of a query with or without a claim, with this least horizon

abbrev pub given_forever : Description → (claim : Bool) → (least : ℕ) → ForeverTurn → Given
given_forever d claim least (turns.NoHistory horizon lines) =
    record { out = none_line claim horizon; err = []; log = lines_under (headings.Horizon horizon) lines }
given_forever d claim least (turns.Fails steps) = given_to outputs.Out (of_steps steps (codes "fails"))
given_forever d claim least (turns.Holds steps lines) =
    record { out = of_steps steps (codes "holds") ++ proved_line claim least; err = []; log = lines_under (headings.Steps steps) lines }
given_forever d claim least (turns.Found horizon row) =
    given_to outputs.Out (found_line claim horizon ++ row_lines d horizon row ++ met_line claim)
given_forever d claim least (turns.Unsettled steps example) =
    given_to outputs.Out (of_steps steps (codes "example") ++ row_lines d steps example ++ (codes "not settled" ++ 10 ∷ []))
given_forever d claim least (turns.Spent heading lines) =
    record { out = codes "budget spent" ++ 10 ∷ []; err = []; log = lines_under heading lines }

-- the status of a run whose last turn this is; none where more is to come; where the question is left open it is that of a spent budget
abbrev pub forever_status : (claim : Bool) → ForeverTurn → Option Status
forever_status claim (turns.NoHistory horizon lines) = None
forever_status claim (turns.Fails steps) = None
forever_status claim (turns.Holds steps lines) = Some (if claim then statuses.Right else statuses.Not)
forever_status claim (turns.Found horizon row) = Some (if claim then statuses.Not else statuses.Right)
forever_status claim (turns.Unsettled steps example) = Some statuses.Spent
forever_status claim (turns.Spent heading lines) = Some statuses.Spent

-- ---- the verdict on a log, of a query with this least horizon

abbrev pub forever_verdict_line : (least : ℕ) → ForeverVerdict → List ℕ
forever_verdict_line least (verdicts.Accepted steps) =
    codes "log accepted: every horizon from " ++ decimal least ++ codes " on, by induction over " ++ decimal steps ++ codes " steps" ++ 10 ∷ []
forever_verdict_line least (verdicts.Refused line reason) = codes "log refused: line " ++ decimal line ++ codes ", " ++ cause_words reason ++ 10 ∷ []

abbrev pub forever_verdict_status : ForeverVerdict → Status
forever_verdict_status (verdicts.Accepted steps) = statuses.Right
forever_verdict_status (verdicts.Refused line reason) = statuses.Not
