use Rattle.std.proofs.Common.{◌∙◌, Err, ap}
use Rattle.cc_run.proofs.Reading.{goes_on, is_refused, no_memory, not_read, reads}
use Rattle.cc_run.proofs.mode.answer_file.Goals as goal

pub returns-in-Ok : goal.returns-in-Ok
returns-in-Ok g c =
    let said = c.describe_with.ensures in
    let read = reads _ _ _ c.file.result.now c.describe_with.result _ _ c.heads.ensures c.file.ensures said.described said.refused said.failed said.after said.begun said.calls said.calm
    said.reads_count said.writes_count in
    goes_on (g.M.Mode.promise c.args.mode.now) _ (g.M.Mode.which c.args.mode.now) (g.M.Mode.file c.args.mode.now) (g.M.Mode.behind c.args.mode.now) c.requires.begins _ _
    c.in-Ok.said c.describe_with.result _ c.answer.result c.in-Ok.is read c.answer.ensures

pub returns-in-Err-Refused : goal.returns-in-Err-Refused
returns-in-Err-Refused g c =
    let said = c.describe_with.ensures in
    let read = reads _ _ _ c.file.result.now c.describe_with.result _ _ c.heads.ensures c.file.ensures said.described said.refused said.failed said.after said.begun said.calls said.calm
    said.reads_count said.writes_count in
    is_refused (g.M.Mode.promise c.args.mode.now) _ (g.M.Mode.which c.args.mode.now) (g.M.Mode.file c.args.mode.now) (g.M.Mode.behind c.args.mode.now) c.requires.begins _ _
    c.in-Err-Refused.refusal c.in-Err-Refused.file c.text.result.now c.describe_with.result _ c.refuse.result (c.in-Err-Refused.is ∙ ap Err c.in-Err-Refused.field-0-is) read
    c.text.ensures c.refuse.ensures.told c.refuse.ensures.status

pub returns-in-Err-ReadFault : goal.returns-in-Err-ReadFault
returns-in-Err-ReadFault g c =
    let said = c.describe_with.ensures in
    let read = reads _ _ _ c.file.result.now c.describe_with.result _ _ c.heads.ensures c.file.ensures said.described said.refused said.failed said.after said.begun said.calls said.calm
    said.reads_count said.writes_count in
    not_read (g.M.Mode.promise c.args.mode.now) _ (g.M.Mode.which c.args.mode.now) (g.M.Mode.file c.args.mode.now) (g.M.Mode.behind c.args.mode.now) c.requires.begins _ _
    c.describe_with.result (c.in-Err-ReadFault.is ∙ ap Err c.in-Err-ReadFault.field-0-is) read

pub returns-in-Err-OutOfMemory : goal.returns-in-Err-OutOfMemory
returns-in-Err-OutOfMemory g c =
    let said = c.describe_with.ensures in
    let read = reads _ _ _ c.file.result.now c.describe_with.result _ _ c.heads.ensures c.file.ensures said.described said.refused said.failed said.after said.begun said.calls said.calm
    said.reads_count said.writes_count in
    no_memory (g.M.Mode.promise c.args.mode.now) _ (g.M.Mode.which c.args.mode.now) (g.M.Mode.file c.args.mode.now) (g.M.Mode.behind c.args.mode.now) c.requires.begins _ _
    c.describe_with.result (c.in-Err-OutOfMemory.is ∙ ap Err c.in-Err-OutOfMemory.field-0-is) read
