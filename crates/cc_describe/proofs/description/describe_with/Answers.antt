use Rattle.std.proofs.Common.{ap, subst, [], Err, IfErr, ◌≢◌, refl}
use Rattle.cc_describe.specs.declared.description.DescribeStop.TheVariants as stops
use Rattle.cc_describe.specs.Describing.{AsksFormulas, DescribesWide, HasForms, HasWideForms}
use Rattle.cc_describe.proofs.CallsKept.{keeps_names}
use Rattle.cc_describe.proofs.Walk.{done_no_fault, untouched}
use Rattle.cc_describe.proofs.AsDescribed.{as_called, fault_comes, fault_told, is_described, is_refused, is_refused_whole, nothing_described, of_some, of_some_whole, opens_none, opens_stopped, opens_whole, says_all, says_so}
use Rattle.cc_describe.proofs.PlacesForms.{asks_formulas, has_forms, has_wide_forms}
use Rattle.cc_describe.proofs.description.describe_with.Goals as goal

pub returns-in-Err-clause-after : goal.returns-in-Err-clause-after
returns-in-Err-clause-after g c = untouched (g.D.Desk.seen c.args.desk.now).told

pub returns-in-Err-clause-calls : goal.returns-in-Err-clause-calls
returns-in-Err-clause-calls g c =
    as_called c.args.heads (g.D.Desk.seen c.args.desk.now).told c.args.name.now (Err stops.OutOfMemory) refl (keeps_names _ refl) (opens_none c.args.heads c.has_places.ensures (g.D.Desk.seen c.args.desk.now).told c.args.name.now)

pub returns-in-Ok-read_file : goal.returns-in-Ok-read_file
returns-in-Ok-read_file g c = record {
  described =
      is_described c.number.result (g.D.Desk.seen c.args.desk.now).told c.args.name.now c.in-Ok.progress c.read_file.new.progress c.in-Ok-read_file.field-0 c.finish.result
      c.number.ensures c.in-Ok.ensures.begun c.in-Ok.ensures.outside c.in-Ok-read_file.ensures.gone c.in-Ok-read_file.ensures.there c.finish.ensures.described;
  refused =
      is_refused_whole c.number.result (g.D.Desk.seen c.args.desk.now).told c.args.name.now c.in-Ok.progress c.read_file.new.progress c.in-Ok-read_file.field-0 c.finish.result
      c.number.ensures c.in-Ok.ensures.begun c.in-Ok.ensures.outside c.in-Ok-read_file.ensures.gone c.in-Ok-read_file.ensures.there c.finish.ensures.refused;
  whole = says_all c.read_file.new.progress c.in-Ok-read_file.field-0 c.finish.result (c.in-Ok-read_file.ensures.kept _ [] c.in-Ok.ensures.begun) c.finish.ensures.described;
  stopped = of_some_whole c.read_file.new.progress c.in-Ok-read_file.field-0 c.finish.result (c.in-Ok-read_file.ensures.kept _ [] c.in-Ok.ensures.begun) c.finish.ensures.refused;
  forms =
      says_so (λ read. HasForms read.described) (λ places read none is. has_forms c.laws_have_forms.ensures c.constants_have_forms.ensures c.args.heads places read.described none is.described) c.read_file.new.progress c.in-Ok-read_file.field-0 c.finish.result
      (c.in-Ok-read_file.ensures.kept _ [] c.in-Ok.ensures.begun) c.finish.ensures.described;
  wide_forms =
      says_so HasWideForms (has_wide_forms c.wide_laws_have_forms.ensures c.wide_constants_have_forms.ensures c.args.heads) c.read_file.new.progress c.in-Ok-read_file.field-0 c.finish.result
      (c.in-Ok-read_file.ensures.kept _ [] c.in-Ok.ensures.begun) c.finish.ensures.described;
  formulas =
      says_so (λ read. AsksFormulas read.described) (λ places read none is. asks_formulas c.queries_have_formulas.ensures c.args.heads places read.described none is.described) c.read_file.new.progress c.in-Ok-read_file.field-0 c.finish.result
      (c.in-Ok-read_file.ensures.kept _ [] c.in-Ok.ensures.begun) c.finish.ensures.described;
  failed = λ is. absurd (subst (λ r. IfErr r (λ stop. stop ≢ stops.ReadFault)) is c.finish.ensures.no_read_fault refl);
  after = c.read_file.ensures.after;
  begun = c.read_file.ensures.begun;
  calls =
      as_called c.args.heads (g.D.Desk.seen c.args.desk.now).told c.args.name.now c.finish.result c.in-Ok.ensures.begun.names c.in-Ok-read_file.ensures.calls
      (opens_whole c.number.result (g.D.Desk.seen c.args.desk.now).told c.args.name.now c.in-Ok.progress c.read_file.new.progress c.in-Ok-read_file.field-0 c.finish.result
      c.number.ensures c.in-Ok.ensures.begun c.in-Ok.ensures.outside c.in-Ok-read_file.ensures.gone);
  calm = λ other. c.in-Ok-read_file.ensures.calm (done_no_fault _);
  reads_count = c.read_file.ensures.reads_count;
  writes_count = c.read_file.ensures.writes_count;
}

pub returns-in-Err-read_file : goal.returns-in-Err-read_file
returns-in-Err-read_file g c = record {
  described = nothing_described (g.D.Desk.seen c.args.desk.now).told c.stop_of-stop.result (λ contents. DescribesWide c.args.heads contents.files c.args.name.now);
  refused =
      is_refused c.number.result (g.D.Desk.seen c.args.desk.now).told c.args.name.now c.deref.result.now c.in-Ok.progress c.read_file.new.progress c.in-Err-read_file.halt c.stop_of-stop.result
      c.number.ensures c.in-Ok.ensures.begun c.in-Ok.ensures.outside c.in-Err-read_file.ensures.gone c.in-Err-read_file.ensures.there c.deref.ensures.value c.stop_of-stop.ensures;
  whole = tt;
  stopped = of_some c.args.heads c.deref.result.now c.read_file.new.progress c.in-Err-read_file.halt c.stop_of-stop.result (c.in-Err-read_file.ensures.kept _ [] c.in-Ok.ensures.begun) c.deref.ensures.value c.stop_of-stop.ensures;
  forms = tt;
  wide_forms = tt;
  formulas = tt;
  failed = λ is. c.in-Err-read_file.ensures.failed (ap Err (fault_told c.deref.result.now c.in-Err-read_file.halt c.stop_of-stop.result c.stop_of-stop.ensures is));
  after = c.read_file.ensures.after;
  begun = c.read_file.ensures.begun;
  calls =
      as_called c.args.heads (g.D.Desk.seen c.args.desk.now).told c.args.name.now (Err c.stop_of-stop.result) c.in-Ok.ensures.begun.names c.in-Err-read_file.ensures.calls
      (opens_stopped c.number.result (g.D.Desk.seen c.args.desk.now).told c.args.name.now c.deref.result.now c.in-Ok.progress c.read_file.new.progress c.in-Err-read_file.halt c.stop_of-stop.result
      c.number.ensures c.in-Ok.ensures.begun c.in-Ok.ensures.outside c.in-Err-read_file.ensures.gone c.stop_of-stop.ensures);
  calm = λ other. c.in-Err-read_file.ensures.calm (λ fault. other (fault_comes c.deref.result.now c.in-Err-read_file.halt c.stop_of-stop.result c.stop_of-stop.ensures fault));
  reads_count = c.read_file.ensures.reads_count;
  writes_count = c.read_file.ensures.writes_count;
}
