use Rattle.std.proofs.Common.{[], ◌∷◌, ap, Err, refl}
use Rattle.cc_run.specs.Modes.CheckingModels.{models_checking_promise}
use Rattle.cc_run.specs.Modes.Modelling.{IsCnfIn}
use Rattle.cc_tell.specs.declared.status.Stop.TheVariants as stops
use Rattle.cc_words.specs.Requests.{ModelChecking}
use Rattle.cc_list.proofs.Callings.{memory_not_read, memory_not_write, ok_no_err, read_not_write}
use Rattle.cc_run.proofs.CnfReadings.{refused_is_no_fault}
use Rattle.cc_run.proofs.ModelRuns.{checked_is, cnf_as, checks_refuse, judged_as, opens_checked}
use Rattle.cc_list.proofs.Outcomes.{files_stay, prints_after_read, prints_opened, prints_refusal, prints_stopped}
use Rattle.cc_run.proofs.modes.models_check.check.Goals as goal

pub returns-in-Ok : goal.returns-in-Ok
returns-in-Ok g c = λ checking same.
    let is = checked_is c.args.asked.now checking same in
    let file = c.args.asked.now.file.now in
    let rest = c.args.asked.now.log.now ∷ [] in
    let read = c.read_form.ensures in
    let form = c.in-Ok.ensures.form in
    let there = files_stay read.after.0 (λ files. IsCnfIn files checking.file form.0) _ _ read.after.1 (cnf_as _ file checking.file form.0 (ap (λ (k : ModelChecking). k.file) is) form.2) in
    prints_opened (models_checking_promise checking) _ (file ∷ rest) _ _ c.judge_log.result (opens_checked _ checking file c.args.asked.now.log.now (ap (λ (k : ModelChecking). k.file) is) (ap (λ (k : ModelChecking). k.log) is))
    (prints_after_read (models_checking_promise checking) _ (file ∷ []) rest read.after.0 _ _ _ c.judge_log.result read.after.1 read.begun read.reads_count read.writes_count read.called (c.in-Ok.ensures.calm (ok_no_err _ _))
    (judged_as checking c.args.asked.now.log.now form.0 (ap (λ (k : ModelChecking). k.log) is) _ _ c.judge_log.result there (c.judge_log.ensures form.0 form.1)))

pub returns-in-Err-Refused : goal.returns-in-Err-Refused
returns-in-Err-Refused g c = λ checking same.
    let is = checked_is c.args.asked.now checking same in
    let file = c.args.asked.now.file.now in
    let rest = c.args.asked.now.log.now ∷ [] in
    let read = c.read_form.ensures in
    let refusal = c.in-Err-Refused.refusal in
    let refused = checks_refuse _ checking refusal file _ c.name_of.result.now (ap (λ (k : ModelChecking). k.file) is) c.name_of.ensures
    (c.in-Err-Refused.ensures.refused refusal c.in-Err-Refused.field-0-is) in
    prints_opened (models_checking_promise checking) _ (file ∷ rest) _ _ c.refuse.result (opens_checked _ checking file c.args.asked.now.log.now (ap (λ (k : ModelChecking). k.file) is) (ap (λ (k : ModelChecking). k.log) is))
    (prints_after_read (models_checking_promise checking) _ (file ∷ []) rest read.after.0 _ _ _ c.refuse.result read.after.1 read.begun read.reads_count read.writes_count read.called
    (c.in-Err-Refused.ensures.calm (refused_is_no_fault _ refusal c.in-Err-Refused.field-0-is))
    (prints_refusal (models_checking_promise checking) _ rest refusal c.name_of.result.now _ _ c.refuse.result tt
    (files_stay read.after.0 (λ files. (models_checking_promise checking).Refuses files refusal c.name_of.result.now) _ _ read.after.1 refused)
    c.refuse.ensures.told c.refuse.ensures.status))

pub returns-in-Err-ReadFault : goal.returns-in-Err-ReadFault
returns-in-Err-ReadFault g c = λ checking same.
    let is = checked_is c.args.asked.now checking same in
    let file = c.args.asked.now.file.now in
    let rest = c.args.asked.now.log.now ∷ [] in
    let read = c.read_form.ensures in
    prints_opened (models_checking_promise checking) _ (file ∷ rest) _ _ _ (opens_checked _ checking file c.args.asked.now.log.now (ap (λ (k : ModelChecking). k.file) is) (ap (λ (k : ModelChecking). k.log) is))
    (prints_stopped (models_checking_promise checking) _ (file ∷ []) (file ∷ rest) read.after.0 stops.ReadFault _ _ read.after.1 read.begun read.reads_count read.writes_count read.called (rest, refl) (λ _. c.in-Err-ReadFault.ensures.failed (ap Err c.in-Err-ReadFault.field-0-is)) read_not_write)

pub returns-in-Err-OutOfMemory : goal.returns-in-Err-OutOfMemory
returns-in-Err-OutOfMemory g c = λ checking same.
    let is = checked_is c.args.asked.now checking same in
    let file = c.args.asked.now.file.now in
    let rest = c.args.asked.now.log.now ∷ [] in
    let read = c.read_form.ensures in
    prints_opened (models_checking_promise checking) _ (file ∷ rest) _ _ _ (opens_checked _ checking file c.args.asked.now.log.now (ap (λ (k : ModelChecking). k.file) is) (ap (λ (k : ModelChecking). k.log) is))
    (prints_stopped (models_checking_promise checking) _ (file ∷ []) (file ∷ rest) read.after.0 stops.OutOfMemory _ _ read.after.1 read.begun read.reads_count read.writes_count read.called (rest, refl) (λ is. absurd (memory_not_read is)) memory_not_write)
