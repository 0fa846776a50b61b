use Rattle.std.proofs.Common.{List, [], ◌<◌, ◌≤◌, ap, arith, ◌∙◌, length, Err, IfErr, refl, subst, sym}
use Rattle.cc_defs.specs.declared.refusal.Fault.TheVariants as faults
use Rattle.cc_describe.specs.declared.heads.Heads.{Heads}
use Rattle.cc_describe.specs.Places.{AreThere, Place, content}
use Rattle.cc_describe.specs.ProgressViews.{IsProgress, IsRefusedOpening}
use Rattle.cc_describe.proofs.CallsKept.{keeps_names, keeps_read}
use Rattle.cc_describe.proofs.Walk.{content_long, done_no_fault, no_fault, long_no_fault, long_there, read_no_fault, wanting_no_fault, untouched, content_is, is_opened, there_too, read_there, finds, errs_if, errs_on}
use Rattle.cc_describe.proofs.SomePlaces.{entered_first, long_at, some_bytes, too_long, too_many, unopened}
use Rattle.cc_describe.proofs.files.open.Goals as goal

pub returns-in_err-file : goal.returns-in_err-file
returns-in_err-file g c =
    let result = c.from_residual.result in
    let is = c.from_residual.ensures.1 in
    let same = c.in_err-file.ensures.unnamed in
    record {
      opened = λ contents which before told was. errs_if _ result _ is;
      kept = λ which before was. errs_if _ result _ is;
      within = errs_if _ result _ is;
      around = errs_on _ result _ is;
      refused = λ contents which before told was. unopened before c.args.name.now _ c.args.progress.now c.enter.new.self result was same is;
      stopped = λ which before was. some_bytes before c.args.name.now [] c.enter.new.self result (unopened before c.args.name.now [] c.args.progress.now c.enter.new.self result was same is);
      there = λ contents told are. finds contents.files result _ (subst (AreThere contents.files) (sym same) are);
      failed = λ fault. absurd (no_fault result faults.OutOfMemory is fault);
      calls = keeps_names _ same;
      calm = λ other. (refl, refl);
      after = untouched (g.D.Desk.seen c.args.desk.now).told;
      begun = refl;
      reads_count = omega (arith);
      writes_count = omega (arith);
    }

pub returns-in_err-count : goal.returns-in_err-count
returns-in_err-count g c =
    let result = c.from_residual-in_err-count.result in
    let is = c.from_residual-in_err-count.ensures.1 in
    let named = ap (λ p. p.names.items) c.in_err-count.ensures.rest ∙ c.in_ok-file.ensures.names in
    let refused : (which : Heads) (before : List Place) → IsProgress which c.args.progress.now before
    → IfErr result (λ halt. IsRefusedOpening before c.args.name.now c.in-Ok.bytes halt c.count.new.self) = λ which before was.
    too_many before c.args.name.now c.in-Ok.bytes c.in_ok-file.file (length c.items.result.now) _ c.args.progress.now c.enter.new.self c.count.new.self result was
    c.in_ok-file.ensures.number c.in_ok-file.ensures.names c.in_ok-file.ensures.rest (ap length c.items.ensures) (subst (λ n. length c.in-Ok.bytes ≤ n) c.number.ensures c.in-Ok.ensures.within) c.in_err-count.ensures.refused c.in_err-count.ensures.rest is in
    record {
      opened = λ contents which before told was. errs_if _ result _ is;
      kept = λ which before was. errs_if _ result _ is;
      within = errs_if _ result _ is;
      around = errs_on _ result _ is;
      refused = λ contents which before told was.
          subst (λ bytes. IfErr result (λ halt. IsRefusedOpening before c.args.name.now bytes halt c.count.new.self))
          (content_is _ contents c.args.name.now c.in-Ok.bytes told c.in-Ok.ensures.bytes) (refused which before was);
      stopped = λ which before was. some_bytes before c.args.name.now c.in-Ok.bytes c.count.new.self result (refused which before was);
      there = λ contents told are.
          finds contents.files result _ (subst (AreThere contents.files) (sym named)
          (there_too contents.files c.args.progress.now.names.items c.args.name.now are (read_there _ contents c.args.name.now c.in-Ok.bytes told c.in-Ok.ensures.bytes)));
      failed = λ fault. absurd (no_fault result _ is fault);
      calls = keeps_read c.args.name.now _ named c.read_all.ensures.calls;
      calm = λ other. c.in-Ok.ensures.calm (read_no_fault _);
      after = c.read_all.ensures.after;
      begun = c.read_all.ensures.begun;
      reads_count = c.read_all.ensures.reads_count;
      writes_count = c.read_all.ensures.writes_count;
    }

pub returns-in-Err-Failed : goal.returns-in-Err-Failed
returns-in-Err-Failed g c = record {
  opened = λ contents which before told was. tt;
  kept = λ which before was. tt;
  within = tt;
  around = tt;
  refused = λ contents which before told was. entered_first before c.args.name.now c.args.progress.now c.enter.new.self was c.in_ok-file.ensures.names;
  stopped = λ which before was. ([], entered_first before c.args.name.now c.args.progress.now c.enter.new.self was c.in_ok-file.ensures.names);
  there = λ contents told are. tt;
  failed = λ is. c.in-Err-Failed.ensures.failed (ap Err c.in-Err-Failed.field-0-is);
  calls = keeps_read c.args.name.now _ c.in_ok-file.ensures.names c.read_all.ensures.calls;
  calm = λ other. absurd (other refl);
  after = c.read_all.ensures.after;
  begun = c.read_all.ensures.begun;
  reads_count = c.read_all.ensures.reads_count;
  writes_count = c.read_all.ensures.writes_count;
}

pub returns-in-Err-OutOfMemory : goal.returns-in-Err-OutOfMemory
returns-in-Err-OutOfMemory g c = record {
  opened = λ contents which before told was. tt;
  kept = λ which before was. tt;
  within = tt;
  around = tt;
  refused = λ contents which before told was. entered_first before c.args.name.now c.args.progress.now c.enter.new.self was c.in_ok-file.ensures.names;
  stopped = λ which before was. ([], entered_first before c.args.name.now c.args.progress.now c.enter.new.self was c.in_ok-file.ensures.names);
  there = λ contents told are. tt;
  failed = λ is. absurd (no_fault _ faults.OutOfMemory refl is);
  calls = keeps_read c.args.name.now _ c.in_ok-file.ensures.names c.read_all.ensures.calls;
  calm = λ other. c.in-Err-OutOfMemory.ensures.calm (wanting_no_fault _ c.in-Err-OutOfMemory.field-0-is);
  after = c.read_all.ensures.after;
  begun = c.read_all.ensures.begun;
  reads_count = c.read_all.ensures.reads_count;
  writes_count = c.read_all.ensures.writes_count;
}

pub returns-in-Err-Limit : goal.returns-in-Err-Limit
returns-in-Err-Limit g c = record {
  opened = λ contents which before told was. tt;
  kept = λ which before was. tt;
  within = tt;
  around = tt;
  refused = λ contents which before told was.
      let long = content_long _ contents c.args.name.now _ told (c.in-Err-Limit.ensures.limit (ap Err c.in-Err-Limit.field-0-is)) in
      long_at before c.args.name.now (content contents.files c.args.name.now) c.in_ok-file.file c.past_at.result c.args.progress.now c.enter.new.self was
      c.in_ok-file.ensures.number c.in_ok-file.ensures.names c.past_at.ensures (subst (λ n. n < length (content contents.files c.args.name.now)) c.number.ensures long);
  stopped = λ which before was.
      too_long before c.args.name.now c.in_ok-file.file c.past_at.result c.args.progress.now c.enter.new.self was
      c.in_ok-file.ensures.number c.in_ok-file.ensures.names c.past_at.ensures;
  there = λ contents told are.
      subst (AreThere contents.files) (sym c.in_ok-file.ensures.names)
      (there_too contents.files c.args.progress.now.names.items c.args.name.now are (long_there _ contents c.args.name.now _ told (c.in-Err-Limit.ensures.limit (ap Err c.in-Err-Limit.field-0-is))));
  failed = λ is. absurd (no_fault _ (faults.Refused c.past_at.result) refl is);
  calls = keeps_read c.args.name.now _ c.in_ok-file.ensures.names c.read_all.ensures.calls;
  calm = λ other. c.in-Err-Limit.ensures.calm (long_no_fault _ c.in-Err-Limit.field-0-is);
  after = c.read_all.ensures.after;
  begun = c.read_all.ensures.begun;
  reads_count = c.read_all.ensures.reads_count;
  writes_count = c.read_all.ensures.writes_count;
}

pub returns : goal.returns
returns g c = record {
  opened = λ contents which before told was. (
    content_is _ contents c.args.name.now c.in-Ok.bytes told c.in-Ok.ensures.bytes,
    is_opened before c.args.name.now c.in-Ok.bytes c.args.progress.now c.enter.new.self c.count.new.self (length c.items.result.now) was
        c.in_ok-file.ensures.names c.in_ok-file.ensures.rest (ap length c.items.ensures) (subst (λ n. length c.in-Ok.bytes ≤ n) c.number.ensures c.in-Ok.ensures.within) c.in_ok-count.ensures.counted c.in_ok-count.ensures.rest,
    c.in_ok-file.ensures.number ∙ ap length was.names,
  );
  refused = λ contents which before told was. tt;
  kept = λ which before was.
      is_opened before c.args.name.now c.in-Ok.bytes c.args.progress.now c.enter.new.self c.count.new.self (length c.items.result.now) was
      c.in_ok-file.ensures.names c.in_ok-file.ensures.rest (ap length c.items.ensures) (subst (λ n. length c.in-Ok.bytes ≤ n) c.number.ensures c.in-Ok.ensures.within) c.in_ok-count.ensures.counted c.in_ok-count.ensures.rest;
  stopped = λ which before was. tt;
  there = λ contents told are.
      subst (λ p. AreThere contents.files p.names.items) (sym c.in_ok-count.ensures.rest)
      (subst (AreThere contents.files) (sym c.in_ok-file.ensures.names)
      (there_too contents.files c.args.progress.now.names.items c.args.name.now are (read_there _ contents c.args.name.now c.in-Ok.bytes told c.in-Ok.ensures.bytes)));
  within = subst (λ n. length c.in-Ok.bytes ≤ n) c.number.ensures c.in-Ok.ensures.within;
  around = ap (λ p. p.around.items) c.in_ok-count.ensures.rest ∙ c.in_ok-file.ensures.around;
  failed = λ is. absurd (done_no_fault _ is);
  calls = keeps_read c.args.name.now _ (ap (λ p. p.names.items) c.in_ok-count.ensures.rest ∙ c.in_ok-file.ensures.names) c.read_all.ensures.calls;
  calm = λ other. c.in-Ok.ensures.calm (read_no_fault _);
  after = c.read_all.ensures.after;
  begun = c.read_all.ensures.begun;
  reads_count = c.read_all.ensures.reads_count;
  writes_count = c.read_all.ensures.writes_count;
}
