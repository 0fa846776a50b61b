use Rattle.std.proofs.Common.{ℕ, ◌≤◌, length, refl, subst, ap, Err}
use Rattle.cc_run.specs.CnfForms.{IsFormFault}
use Rattle.cc_list.proofs.Callings.{called_reads, ok_no_err}
use Rattle.cc_run.proofs.CnfReadings.{fault_refuses_none, form_refused, memory_is_no_fault, memory_refuses_none, memory_unread, refused_no_fault}
use Rattle.cc_run.proofs.cnfs.read_form.Goals as goal

pub returns-in-Err-Limit-clause-called : goal.returns-in-Err-Limit-clause-called
returns-in-Err-Limit-clause-called g c = called_reads c.args.file.now _ _ _ c.read_all.ensures.calls

pub returns-in-Ok-form_of-clause-called : goal.returns-in-Ok-form_of-clause-called
returns-in-Ok-form_of-clause-called g c = called_reads c.args.file.now _ _ _ c.read_all.ensures.calls

pub returns-in-Err-Failed : goal.returns-in-Err-Failed
returns-in-Err-Failed g c = record {
  form = tt;
  refused = λ refusal is. absurd (fault_refuses_none refusal is);
  failed = λ is. c.in-Err-Failed.ensures.failed (ap Err c.in-Err-Failed.field-0-is);
  calm = λ other. absurd (other refl);
  after = c.read_all.ensures.after;
  begun = c.read_all.ensures.begun;
  called = called_reads c.args.file.now _ _ _ c.read_all.ensures.calls;
  reads_count = c.read_all.ensures.reads_count;
  writes_count = c.read_all.ensures.writes_count;
}

pub returns-in-Err-OutOfMemory : goal.returns-in-Err-OutOfMemory
returns-in-Err-OutOfMemory g c = record {
  form = tt;
  refused = λ refusal is. absurd (memory_refuses_none refusal is);
  failed = λ is. absurd (memory_is_no_fault _ is);
  calm = λ other. c.in-Err-OutOfMemory.ensures.calm (memory_unread _ _ c.in-Err-OutOfMemory.field-0-is);
  after = c.read_all.ensures.after;
  begun = c.read_all.ensures.begun;
  called = called_reads c.args.file.now _ _ _ c.read_all.ensures.calls;
  reads_count = c.read_all.ensures.reads_count;
  writes_count = c.read_all.ensures.writes_count;
}

pub returns-in-Err-Refused : goal.returns-in-Err-Refused
returns-in-Err-Refused g c = record {
  form = tt;
  refused = λ refusal is.
      form_refused _ c.args.file.now c.in-Ok.bytes c.items.result.now refusal c.in-Err-Refused.refusal is c.items.ensures (subst (λ (n : ℕ). length c.in-Ok.bytes ≤ n) c.number.ensures c.in-Ok.ensures.within)
      (subst (IsFormFault c.items.result.now) c.in-Err-Refused.field-0-is c.in-Err-Refused.ensures.refused) c.in-Ok.ensures.bytes;
  failed = λ is. absurd (refused_no_fault _ _ is);
  calm = λ other. c.in-Ok.ensures.calm (ok_no_err _ _);
  after = c.read_all.ensures.after;
  begun = c.read_all.ensures.begun;
  called = called_reads c.args.file.now _ _ _ c.read_all.ensures.calls;
  reads_count = c.read_all.ensures.reads_count;
  writes_count = c.read_all.ensures.writes_count;
}

pub returns : goal.returns
returns g c = record {
  form = tt;
  refused = λ refusal is. absurd (memory_refuses_none refusal is);
  failed = λ is. absurd (memory_is_no_fault _ is);
  calm = λ other. c.in-Ok.ensures.calm (ok_no_err _ _);
  after = c.read_all.ensures.after;
  begun = c.read_all.ensures.begun;
  called = called_reads c.args.file.now _ _ _ c.read_all.ensures.calls;
  reads_count = c.read_all.ensures.reads_count;
  writes_count = c.read_all.ensures.writes_count;
}
