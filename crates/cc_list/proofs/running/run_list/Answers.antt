use Rattle.std.proofs.Common.{◌∙◌, Some, ap, map, string_bytes}
use Rattle.cc_list.specs.Tasks.{request_of}
use Rattle.cc_words.specs.declared.asked.Asked.TheVariants as requests
use Rattle.cc_list.proofs.Requests.{asked_is, request_within}
use Rattle.cc_list.proofs.WholeRuns.{answers_lacking}
use Rattle.cc_list.proofs.running.run_list.Goals as goal

pub list_to_end-requires-clause-count : goal.list_to_end-requires-clause-count
list_to_end-requires-clause-count g c =
    let words = map string_bytes c.args.words.now in
    let read = c.in-Ok-Some-List in
    (request_within words _ (asked_is words read.field-0 (requests.List read.asked) read.ensures.taken (read.field-0-is ∙ ap Some read.field-0-0-is))).0

pub list_to_end-requires-clause-budget : goal.list_to_end-requires-clause-budget
list_to_end-requires-clause-budget g c =
    let words = map string_bytes c.args.words.now in
    let read = c.in-Ok-Some-List in
    (request_within words _ (asked_is words read.field-0 (requests.List read.asked) read.ensures.taken (read.field-0-is ∙ ap Some read.field-0-0-is))).1

pub returns-in-Err : goal.returns-in-Err
returns-in-Err g c = answers_lacking c.has_places.ensures (request_of (map string_bytes c.args.words.now)) _ _ _ c.tell_stop.ensures
