-- What a search that is summed up gives behind its end.
use Rattle.std.proofs.Common.{◌≡◌, ℕ, List, [], ◌∷◌, ◌++◌, arith, sym, ap, ◌∙◌}
use Rattle.std.proofs.lemmas.Grind.{common_steps}
use Rattle.cc_defs.specs.declared.event.Ending.{Ending}
use Rattle.cc_defs.specs.declared.event.Event.{Event}
use Rattle.cc_defs.specs.declared.event.Event.TheVariants as events
use Rattle.cc_defs.specs.declared.event.Told.{Told}
use Rattle.cc_defs.specs.Description.{Description}
use Rattle.cc_ports.specs.declared.desk.To.TheVariants as outputs
use Rattle.cc_print.specs.Summaries.{endings_told, summary}
use Rattle.cc_lists.specs.Subjects.{with_row}
use Rattle.cc_tell.specs.Manners.{Summed, summed}
use Rattle.cc_tell.specs.Givens.{given_to}
use Rattle.cc_tell.specs.EventTexts.{texts_behind}
use Rattle.cc_tell.specs.Tellers.{SumUp}

-- what is kept has the summary of all that was told
same_summary : (size : ℕ) (outcome told : List Told) → SumUp outcome told → summary size outcome ≡ summary size told
same_summary size outcome told up = rw (up.0, up.1)

both_more : (outcome before more : List Told) → SumUp outcome before → SumUp (outcome ++ more) (before ++ more)
both_more outcome before more up = (grind (arith, common_steps), grind (arith, common_steps))

-- the last event gives the summary of what was kept
pub last_texts : (size : ℕ) (d : Description) (before outcome after : List Told) (event : Event) (ending : Ending) (row : List ℕ) → SumUp outcome before → endings_told before ≡ [] →
    event ≡ events.Ended ending → after ≡ outcome ++ with_row (events.Ended ending) row ∷ [] → given_to outputs.Out (summary size after) ≡ texts_behind (Summed size) d before (with_row event row)
last_texts size d before outcome after event ending row up none is kept =
    let last = with_row (events.Ended ending) row ∷ [] in
    let only : endings_told (before ++ last) ≡ endings_told last = grind (arith, common_steps) in
    ap (λ (told : List Told). given_to outputs.Out (summary size told)) kept
    ∙ (ap (λ (text : List ℕ). given_to outputs.Out text)
    (same_summary size (outcome ++ last) (before ++ last) (both_more outcome before last up) ∙ ap (λ (endings : List Ending). summed size (before ++ last) endings) (sym only))
    ∙ ap (λ (e : Event). texts_behind (Summed size) d before (with_row e row)) (sym is))
