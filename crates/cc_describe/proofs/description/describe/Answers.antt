use Rattle.std.proofs.Common.{subst, sym, Err}
use Rattle.cc_describe.specs.declared.description.Described.{Described}
use Rattle.cc_describe.specs.declared.description.DescribedWide.{DescribedWide}
use Rattle.cc_describe.specs.declared.heads.Heads.TheVariants as heads
use Rattle.cc_describe.specs.Describing.{AsksFormulas, Describes, HasForms}
use Rattle.cc_describe.proofs.AsDescribed.{describes_bare, no_fault, nothing_described, opened_bare, same_fault, says_bare}
use Rattle.cc_describe.proofs.description.describe.Goals as goal

pub returns-in-Ok : goal.returns-in-Ok
returns-in-Ok g c =
    let read = c.in-Ok.ensures in record {
      described = describes_bare heads.Definite (g.D.Desk.seen c.args.desk.now).told c.args.name.now c.in-Ok.read c.definite.result c.definite.ensures read.described;
      refused = read.refused;
      whole = says_bare heads.Definite c.in-Ok.read c.definite.result c.definite.ensures read.whole;
      stopped = tt;
      forms = subst HasForms (sym c.definite.ensures) read.forms;
      formulas = subst AsksFormulas (sym c.definite.ensures) read.formulas;
      failed = λ is. absurd (no_fault _ _ is);
      after = read.after;
      begun = read.begun;
      calls = read.calls;
      calm = λ other. read.calm (no_fault _ _);
      reads_count = read.reads_count;
      writes_count = read.writes_count;
    }

pub returns-in-Err : goal.returns-in-Err
returns-in-Err g c =
    let read = c.in-Err.ensures in
    let told = (g.D.Desk.seen c.args.desk.now).told in record {
      described = nothing_described told c.in-Err.stop (λ contents. Describes heads.Definite contents.files c.args.name.now);
      refused = read.refused;
      whole = tt;
      stopped = read.stopped;
      forms = tt;
      formulas = tt;
      failed = λ is. read.failed (same_fault _ _ is);
      after = read.after;
      begun = read.begun;
      calls = (read.calls.0, read.calls.1, read.calls.2, opened_bare DescribedWide Described heads.Definite told c.args.name.now c.in-Err.stop _ read.calls.3, read.calls.4);
      calm = λ other. read.calm (λ fault. other (same_fault _ _ fault));
      reads_count = read.reads_count;
      writes_count = read.writes_count;
    }
