use Rattle.std.proofs.Common.{[], ◌∷◌, ap, Err}
use Rattle.cc_run.specs.Modes.Checking.{NamesLogOf}
use Rattle.cc_run.specs.Modes.Converting.{converting_promise}
use Rattle.cc_run.specs.Naming.{checked_by}
use Rattle.cc_list.specs.Telling.{task_to_check}
use Rattle.cc_tell.specs.declared.status.Stop.TheVariants as stops
use Rattle.cc_words.specs.Requests.{Converting}
use Rattle.cc_list.proofs.Callings.{called_reads, first_all, limit_is_no_fault, memory_not_read, memory_not_write, ok_no_err, read_not_write}
use Rattle.cc_run.proofs.Judged.{converting_is, is_log_of, refuses_long}
use Rattle.cc_list.proofs.Outcomes.{files_stay, prints_after_read, prints_refusal, prints_stopped}
use Rattle.cc_run.proofs.modes.convert.convert_over.Goals as goal

pub returns-in-Ok : goal.returns-in-Ok
returns-in-Ok g c = λ converting d q same of is.
    let read = c.read_all.ensures in
    let task = task_to_check d q c.args.prepared.now.key in
    let named = is_log_of _ (checked_by converting) task c.args.asked.now.log.now c.in-Ok.bytes c.items.result.now (ap (λ (one : Converting). one.log) (converting_is c.args.asked.now converting same)) c.items.ensures is c.in-Ok.ensures.bytes in
    let there = files_stay read.after.0 (λ files. NamesLogOf files (checked_by converting) task c.items.result.now) _ _ read.after.1 named in
    let log = c.args.asked.now.log.now in
    prints_after_read (converting_promise converting) _ (log ∷ []) [] read.after.0 _ _ _ c.convert_log.result read.after.1 read.begun read.reads_count read.writes_count
    (called_reads log _ _ _ read.calls) (c.in-Ok.ensures.calm (ok_no_err _ _))
    (c.convert_log.ensures converting d q (ap (λ (one : Converting). one.to) (converting_is c.args.asked.now converting same)) of there)

pub returns-in-Err-Limit : goal.returns-in-Err-Limit
returns-in-Err-Limit g c = λ converting d q same of is.
    let read = c.read_all.ensures in
    let task = task_to_check d q c.args.prepared.now.key in
    let long = c.in-Err-Limit.ensures.limit (ap Err c.in-Err-Limit.field-0-is) in
    let refused = refuses_long _ converting task c.past.result c.args.asked.now.log.now _ (ap (λ (one : Converting). one.log) (converting_is c.args.asked.now converting same)) is long c.number.ensures c.past.ensures in
    let log = c.args.asked.now.log.now in
    prints_after_read (converting_promise converting) _ (log ∷ []) [] read.after.0 _ _ _ c.refuse.result read.after.1 read.begun read.reads_count read.writes_count
    (called_reads log _ _ _ read.calls) (c.in-Err-Limit.ensures.calm (limit_is_no_fault _ c.in-Err-Limit.field-0-is))
    (prints_refusal (converting_promise converting) _ [] c.past.result [] _ _ c.refuse.result tt
    (files_stay read.after.0 (λ files. (converting_promise converting).Refuses files c.past.result []) _ _ read.after.1 refused)
    c.refuse.ensures.told c.refuse.ensures.status)

pub returns-in-Err-Failed : goal.returns-in-Err-Failed
returns-in-Err-Failed g c = λ converting d q same of is.
    let read = c.read_all.ensures in
    let log = c.args.asked.now.log.now in
    prints_stopped (converting_promise converting) _ (log ∷ []) (log ∷ []) read.after.0 stops.ReadFault _ _ read.after.1 read.begun read.reads_count read.writes_count
    (called_reads log _ _ _ read.calls) (first_all (log ∷ [])) (λ _. c.in-Err-Failed.ensures.failed (ap Err c.in-Err-Failed.field-0-is)) read_not_write

pub returns-in-Err-OutOfMemory : goal.returns-in-Err-OutOfMemory
returns-in-Err-OutOfMemory g c = λ converting d q same of is.
    let read = c.read_all.ensures in
    let log = c.args.asked.now.log.now in
    prints_stopped (converting_promise converting) _ (log ∷ []) (log ∷ []) read.after.0 stops.OutOfMemory _ _ read.after.1 read.begun read.reads_count read.writes_count
    (called_reads log _ _ _ read.calls) (first_all (log ∷ [])) (λ is. absurd (memory_not_read is)) memory_not_write
