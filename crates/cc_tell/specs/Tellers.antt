-- What a teller keeps, and which lines it can write.
use Rattle.std.specs.Prelude.{◌≡◌, ℕ, ◌≤◌, Bool, List, []}
use Rattle.cc_log.specs.Entries.{HasShortLists, NamesBefore}
use Rattle.cc_defs.specs.declared.event.Event.{Event}
use Rattle.cc_defs.specs.declared.event.Event.TheVariants as events
use Rattle.cc_defs.specs.declared.event.Told.{Told}
use Rattle.cc_defs.specs.declared.log.LogLine.{LogLine}
use Rattle.cc_defs.specs.declared.log.LogLine.TheVariants as lines
use Rattle.cc_print.specs.Summaries.{empty_horizons, endings_told}
use Rattle.cc_lists.specs.Subjects.{lines_of}
use Rattle.cc_tell.specs.declared.telling.Teller.{Teller}
use Rattle.cc_tell.specs.declared.telling.Teller.TheVariants as tellers
use Rattle.cc_tell.specs.Manners.{Manner, OneByOne, Summed}
use Rattle.cc_tell.specs.EventTexts.{own_after}

-- so many axioms has the section whose heading an event is
abbrev pub IsCounted : (counts : Bool → ℕ → ℕ) → Event → ℕ → Type 0
IsCounted counts event axioms = (conditions : Bool) (horizon : ℕ) → event ≡ events.Log (lines.Section conditions horizon) → axioms ≡ counts conditions horizon

-- a line that version 2 can say, where its own clause has this number
abbrev pub IsWritable : ℕ → LogLine → Type 0
IsWritable own line = (own ≤ 999999999) × HasShortLists line × NamesBefore own line

abbrev pub IsWritableEvent : ℕ → Event → Type 0
IsWritableEvent own (events.Log line) = IsWritable own line
IsWritableEvent own (events.NoHistory horizon) = Unit {0}
IsWritableEvent own (events.History horizon number) = Unit {0}
IsWritableEvent own (events.NoConditions horizon) = Unit {0}
IsWritableEvent own (events.Holds horizon) = Unit {0}
IsWritableEvent own (events.Counterexample horizon) = Unit {0}
IsWritableEvent own (events.Ended ending) = Unit {0}

-- a section has so many axioms
abbrev pub manner_of : (counts : Bool → ℕ → ℕ) → Teller → Manner
manner_of counts (tellers.OneByOne version own) = OneByOne version counts
manner_of counts (tellers.Summed size outcome) = Summed size

abbrev pub IsWritableBy : Teller → Event → Type 0
IsWritableBy (tellers.OneByOne version own) event = IsWritableEvent own event
IsWritableBy (tellers.Summed size outcome) event = Unit {0}

-- these events have the summary of those
abbrev pub SumUp : List Told → List Told → Type 0
SumUp outcome told = (empty_horizons outcome ≡ empty_horizons told) × (endings_told outcome ≡ endings_told told)

-- What a teller keeps is right for the events that were told, with which the search has not ended.
abbrev pub KeepsUp : (counts : Bool → ℕ → ℕ) → Teller → List Told → Type 0
KeepsUp counts (tellers.OneByOne version own) told = own ≡ own_after counts 1 (lines_of told)
KeepsUp counts (tellers.Summed size outcome) told = SumUp outcome.items told × (endings_told told ≡ [])
