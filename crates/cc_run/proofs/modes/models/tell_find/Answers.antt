use Rattle.std.proofs.Common.{◌≤◌, ◌+◌, ℕ, List, ap, arith, length, refl, subst, sym}
use Rattle.cc_ports.specs.declared.desk.To.TheVariants as outputs
use Rattle.cc_print.specs.Models.{model_line}
use Rattle.cc_tell.proofs.GivenSteps.{one_as}
use Rattle.cc_run.proofs.ModelFinds.{end_found, limit_found, line_found, line_writable, memory_found, model_found}
use Rattle.cc_run.proofs.ModelLines.{own_low, row_short}
use Rattle.cc_run.proofs.modes.models.tell_find.Goals as goal

pub tell_clause-requires-clause-writable : goal.tell_clause-requires-clause-writable
tell_clause-requires-clause-writable g c =
    let at = c.requires.at in
    let next = rw c.in-Ok-Line.field-0-is at (c.in-Ok-Line.ensures.tells at.0 at.1 at.2 at.3 at.4.stands) in
    line_writable at.0 c.args.lister.now.version at.1 at.2 at.3 c.in-Ok-Line.line _ _ c.args.search.now c.next.new.self c.next.new.self.row at.4 next.0 next.1

pub tell_model-requires-clause-short : goal.tell_model-requires-clause-short
tell_model-requires-clause-short g c =
    let at = c.requires.at in
    let next = rw c.in-Ok-Row.field-0-is at (c.in-Ok-Row.ensures.tells at.0 at.1 at.2 at.3 at.4.stands) in
    subst (λ (r : List ℕ). length r ≤ 1000000) (sym c.row.ensures) (row_short at.0 at.1 at.2 at.3.steps c.next.new.self.row c.next.new.self at.4.within next.1)

pub tell_end-requires : goal.tell_end-requires
tell_end-requires g c =
    let at = c.requires.at in
    let own = at.4.own_is in
    let low = own_low at.0 at.1 at.2 c.args.search.now at.4.within at.3 at.4.stands in
    omega arith

pub returns-in-Ok-Line-clause-tells : goal.returns-in-Ok-Line-clause-tells
returns-in-Ok-Line-clause-tells g c = λ axioms count budget section at.
    let next = rw c.in-Ok-Line.field-0-is at (c.in-Ok-Line.ensures.tells axioms count budget section at.stands) in
    let told = c.tell_clause.ensures in
    line_found axioms c.args.lister.now.version count budget section c.in-Ok-Line.line c.args.lister.now c.tell_clause.new.lister c.args.search.now c.next.new.self c.next.new.self.row _ _
    c.tell_clause.result at next.0 next.1 told.told told.behind told.goes_on

pub returns-in-Ok-Row-clause-tells : goal.returns-in-Ok-Row-clause-tells
returns-in-Ok-Row-clause-tells g c = λ axioms count budget section at.
    let next = rw c.in-Ok-Row.field-0-is at (c.in-Ok-Row.ensures.tells axioms count budget section at.stands) in
    let told = c.tell_model.ensures in
    let line = one_as outputs.Out _ _ _ _ c.tell_model.result (ap (λ (r : List ℕ). model_line (c.args.lister.now.listed + 1) r) c.row.ensures) told.told in
    model_found axioms c.args.lister.now.version count budget section c.args.lister.now c.tell_model.new.lister c.args.search.now c.next.new.self c.next.new.self.row _ _
    c.tell_model.result at next.0 next.1 line told.behind told.goes_on

pub returns-in-Ok-End-clause-tells : goal.returns-in-Ok-End-clause-tells
returns-in-Ok-End-clause-tells g c = λ axioms count budget section at.
    let next = rw c.in-Ok-End.field-0-is at (c.in-Ok-End.ensures.tells axioms count budget section at.stands) in
    let told = c.tell_end.ensures in
    end_found axioms c.args.lister.now.version count budget section c.in-Ok-End.word c.args.lister.now c.args.search.now c.next.new.self _ _
    c.tell_end.result at next.0 next.1 told.told told.status

pub returns-in-Err-Refused-clause-tells : goal.returns-in-Err-Refused-clause-tells
returns-in-Err-Refused-clause-tells g c = λ axioms count budget section at.
    let fault = rw c.in-Err-Refused.field-0-is at c.in-Err-Refused.ensures.refused in
    let told = c.tell_limit.ensures in
    limit_found axioms c.args.lister.now.version count budget section c.args.lister.now c.args.search.now c.next.new.self c.in-Err-Refused.refusal _ _
    c.tell_limit.result at fault.0 (fault.1 axioms count budget section at.stands) told.told told.status

pub returns-in-Err-OutOfMemory-clause-tells : goal.returns-in-Err-OutOfMemory-clause-tells
returns-in-Err-OutOfMemory-clause-tells g c = λ axioms count budget section at.
    memory_found axioms c.args.lister.now.version count budget section c.args.lister.now c.args.search.now c.next.new.self _ _ at refl
