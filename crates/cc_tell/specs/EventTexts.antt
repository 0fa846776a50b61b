-- What the events of a search give, each behind those before it.
use Rattle.std.specs.Prelude.{ℕ, Bool, List, [], ◌∷◌, ◌++◌, flat_map}
use Rattle.cc_defs.specs.declared.event.Event.{Event}
use Rattle.cc_defs.specs.declared.event.Event.TheVariants as events
use Rattle.cc_defs.specs.declared.event.Told.{Told}
use Rattle.cc_defs.specs.declared.log.LogLine.{LogLine}
use Rattle.cc_defs.specs.declared.log.Version.{Version}
use Rattle.cc_defs.specs.Conditions.{IsSignatureOfDescription}
use Rattle.cc_defs.specs.Description.{Description, sizes_at}
use Rattle.cc_defs.specs.Events.{line_told, out_text}
use Rattle.cc_defs.specs.LogTexts.{line_text}
use Rattle.cc_defs.specs.LogVersions.{line_bytes, lines_bytes, own_behind}
use Rattle.cc_defs.specs.Rows.{IsRow}
use Rattle.cc_defs.specs.Signatures.{Signature}
use Rattle.cc_lists.specs.Subjects.{lines_of}
use Rattle.cc_tell.specs.Manners.{Manner, OneByOne, Summed, out_told}
use Rattle.cc_tell.specs.Givens.{Given}

-- the lines of a log that events make, without the header
abbrev pub lines_text : List Told → List ℕ
lines_text told = flat_map line_text (lines_of told)

abbrev pub lines_told : Manner → List Told → List ℕ
lines_told (OneByOne version counts) told = lines_bytes version counts 1 (lines_of told)
lines_told (Summed size) told = lines_text told

-- what events give
abbrev pub texts_of : Manner → Description → List Told → Given
texts_of manner d told = record { out = out_told manner d told; err = []; log = lines_told manner told }

-- the number of the next clause behind lines
abbrev pub own_after : (counts : Bool → ℕ → ℕ) → ℕ → List LogLine → ℕ
own_after counts own [] = own
own_after counts own (line ∷ others) = own_after counts (own_behind counts own line) others

-- what an event gives by itself, where the own clause of its line has this number
abbrev pub texts_at : Version → ℕ → Description → Told → Given
texts_at version own d told =
    record { out = out_text d (told ∷ []); err = []; log = flat_map (line_bytes version own) (line_told told.event) }

-- what one more event gives behind others, with which the search has not ended
abbrev pub texts_behind : Manner → Description → List Told → Told → Given
texts_behind (OneByOne version counts) d before told = texts_at version (own_after counts 1 (lines_of before)) d told
texts_behind (Summed size) d before told = record { out = out_told (Summed size) d (before ++ told ∷ []); err = []; log = lines_text (told ∷ []) }

-- the row of a history or a counterexample is one of its horizon
abbrev pub IsRowOfEvent : Signature → Event → List ℕ → Type 0
IsRowOfEvent signature (events.History horizon number) row = (d : Description) → IsSignatureOfDescription d signature → IsRow (sizes_at d horizon) row
IsRowOfEvent signature (events.Counterexample horizon) row = (d : Description) → IsSignatureOfDescription d signature → IsRow (sizes_at d horizon) row
IsRowOfEvent signature (events.Log line) row = Unit {0}
IsRowOfEvent signature (events.NoHistory horizon) row = Unit {0}
IsRowOfEvent signature (events.NoConditions horizon) row = Unit {0}
IsRowOfEvent signature (events.Holds horizon) row = Unit {0}
IsRowOfEvent signature (events.Ended ending) row = Unit {0}
