use Rattle.std.proofs.Common.{[], refl}
use Rattle.cc_defs.specs.declared.refusal.Fault.TheVariants as faults
use Rattle.cc_run.specs.Modes.Converting.{converting_promise}
use Rattle.cc_list.specs.Telling.{task_to_check}
use Rattle.cc_run.proofs.Judged.{fault_as, refuses_section, verdict_as}
use Rattle.cc_list.proofs.Outcomes.{prints_lacking, prints_refusal}
use Rattle.cc_run.proofs.modes.convert.convert_log.Goals as goal

pub convert_judged-requires-clause-within : goal.convert_judged-requires-clause-within
convert_judged-requires-clause-within g c =
    let (d, q, is, of) = c.requires.of in
    let said = verdict_as (task_to_check d q c.args.prepared.now.key) _ c.args.bytes.now c.in-Ok.verdict c.as_ref.ensures.value (c.in-Ok.ensures.verdict d q of.laws_are of.query_is)
    (c.in-Ok.ensures.within d q of.laws_are of.query_is) (c.in-Ok.ensures.whole d q of.laws_are of.query_is) in
    (d, q, of, said.within)

pub returns-in-Ok : goal.returns-in-Ok
returns-in-Ok g c = λ converting d q to of named.
    let said = verdict_as (task_to_check d q c.args.prepared.now.key) _ c.args.bytes.now c.in-Ok.verdict c.as_ref.ensures.value (c.in-Ok.ensures.verdict d q of.laws_are of.query_is)
    (c.in-Ok.ensures.within d q of.laws_are of.query_is) (c.in-Ok.ensures.whole d q of.laws_are of.query_is) in
    c.convert_judged.ensures converting d q to of named (record { few = c.requires.few; judged = said.judged; within = said.within; blocks = said.blocks })

pub returns-in-Err-Refused : goal.returns-in-Err-Refused
returns-in-Err-Refused g c = λ converting d q to of named.
    let key = c.args.prepared.now.key in
    let fault = fault_as d q key _ c.args.bytes.now (faults.Refused c.in-Err-Refused.refusal) c.as_ref.ensures.value
    (rw c.in-Err-Refused.field-0-is at (c.in-Err-Refused.ensures.refused d q of.laws_are of.query_is)) in
    prints_refusal (converting_promise converting) _ [] c.in-Err-Refused.refusal [] _ _ c.refuse.result tt
    (refuses_section _ converting (task_to_check d q key) c.in-Err-Refused.refusal c.args.bytes.now named c.requires.few fault)
    c.refuse.ensures.told c.refuse.ensures.status

pub returns-in-Err-OutOfMemory : goal.returns-in-Err-OutOfMemory
returns-in-Err-OutOfMemory g c = λ converting d q to of named. prints_lacking (converting_promise converting) _ [] _ _ refl
