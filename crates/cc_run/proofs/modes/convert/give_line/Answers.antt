use Rattle.std.proofs.Common.{ap, sym, subst, ◌∙◌}
use Rattle.cc_arena.specs.GroundViews.{plain_ground_query}
use Rattle.cc_convert.specs.Saying.{OpensWithin}
use Rattle.cc_defs.specs.declared.log.LogLine.{LogLine}
use Rattle.cc_defs.specs.LogVersions.{line_bytes, other_version, own_behind}
use Rattle.cc_defs.specs.LogTexts.{IsFormed}
use Rattle.cc_ports.specs.declared.desk.To.TheVariants as outputs
use Rattle.cc_list.specs.Telling.{counts_of}
use Rattle.cc_tell.specs.Tellers.{IsWritable}
use Rattle.cc_tell.proofs.GivenSteps.{one_as, step_again, step_done, step_nothing}
use Rattle.cc_run.proofs.Converted.{bytes_behind, left_behind, one_left, shorter, writable}
use Rattle.cc_run.proofs.modes.convert.give_line.Goals as goal

pub said_line-requires : goal.said_line-requires
said_line-requires g c =
    let one = one_left c.args.described.now.sig c.args.prepared.now.laws (plain_ground_query c.args.prepared.now.query) c.args.prepared.now.key c.args.version c.args.own c.args.bytes.now c.requires.left c.requires.some in
    (one.line, bytes_behind one.d one.q c.args.prepared.now.key c.args.version c.args.own c.args.bytes.now one.line one.others one.left, one.left.each.0, one.left.spelled)

pub returns-in_err-line-clause-told : goal.returns-in_err-line-clause-told
returns-in_err-line-clause-told g c = λ d q line others of left. step_nothing _ _ c.from_residual.result c.from_residual.ensures.1

pub axioms_behind-requires-clause-opened : goal.axioms_behind-requires-clause-opened
axioms_behind-requires-clause-opened g c =
    let one = one_left c.args.described.now.sig c.args.prepared.now.laws (plain_ground_query c.args.prepared.now.query) c.args.prepared.now.key c.args.version c.args.own c.args.bytes.now c.requires.left c.requires.some in
    let found = c.in_ok-line.ensures one.line (bytes_behind one.d one.q c.args.prepared.now.key c.args.version c.args.own c.args.bytes.now one.line one.others one.left) one.left.each.0 one.left.spelled in
    (one.d, one.q, one.of, subst (λ (l : LogLine). OpensWithin one.d one.q c.args.prepared.now.key l) (sym found.0) one.left.each.1)

pub returns-in_err-axioms-clause-told : goal.returns-in_err-axioms-clause-told
returns-in_err-axioms-clause-told g c = λ d q line others of left. step_nothing _ _ c.from_residual-in_err-axioms.result c.from_residual-in_err-axioms.ensures.1

pub tell_line_in-requires-clause-formed : goal.tell_line_in-requires-clause-formed
tell_line_in-requires-clause-formed g c =
    let one = one_left c.args.described.now.sig c.args.prepared.now.laws (plain_ground_query c.args.prepared.now.query) c.args.prepared.now.key c.args.version c.args.own c.args.bytes.now c.requires.left c.requires.some in
    let found = c.in_ok-line.ensures one.line (bytes_behind one.d one.q c.args.prepared.now.key c.args.version c.args.own c.args.bytes.now one.line one.others one.left) one.left.each.0 one.left.spelled in
    subst IsFormed (sym found.0) one.left.each.0.formed

pub tell_line_in-requires-clause-writable : goal.tell_line_in-requires-clause-writable
tell_line_in-requires-clause-writable g c =
    let one = one_left c.args.described.now.sig c.args.prepared.now.laws (plain_ground_query c.args.prepared.now.query) c.args.prepared.now.key c.args.version c.args.own c.args.bytes.now c.requires.left c.requires.some in
    let found = c.in_ok-line.ensures one.line (bytes_behind one.d one.q c.args.prepared.now.key c.args.version c.args.own c.args.bytes.now one.line one.others one.left) one.left.each.0 one.left.spelled in
    subst (λ (l : LogLine). IsWritable c.args.own l) (sym found.0)
    (writable one.d one.q c.args.prepared.now.key c.args.version c.args.own c.args.bytes.now one.line one.others one.left)

pub own_behind_line-requires-clause-low : goal.own_behind_line-requires-clause-low
own_behind_line-requires-clause-low g c =
    let one = one_left c.args.described.now.sig c.args.prepared.now.laws (plain_ground_query c.args.prepared.now.query) c.args.prepared.now.key c.args.version c.args.own c.args.bytes.now c.requires.left c.requires.some in
    one.left.each.0.own_short

pub returns-clause-shorter : goal.returns-clause-shorter
returns-clause-shorter g c =
    let one = one_left c.args.described.now.sig c.args.prepared.now.laws (plain_ground_query c.args.prepared.now.query) c.args.prepared.now.key c.args.version c.args.own c.args.bytes.now c.requires.left c.requires.some in
    let found = c.in_ok-line.ensures one.line (bytes_behind one.d one.q c.args.prepared.now.key c.args.version c.args.own c.args.bytes.now one.line one.others one.left) one.left.each.0 one.left.spelled in
    shorter one.d one.q c.args.prepared.now.key c.args.version c.args.own c.args.bytes.now one.line one.others one.left c.in_ok-line.rest.now found.1

pub returns-clause-left : goal.returns-clause-left
returns-clause-left g c = λ d q line others of left.
    let found = c.in_ok-line.ensures line (bytes_behind d q c.args.prepared.now.key c.args.version c.args.own c.args.bytes.now line others left) left.each.0 left.spelled in
    let counts = counts_of d q c.args.prepared.now.key in
    let number = c.own_behind_line.ensures counts (c.in_ok-axioms.ensures.counted d q of) ∙ ap (λ (l : LogLine). own_behind counts c.args.own l) found.0 in
    (number, left_behind d q c.args.prepared.now.key c.args.version c.args.own c.args.bytes.now line others left c.in_ok-line.rest.now c.own_behind_line.result found.1 number)

pub returns-clause-told : goal.returns-clause-told
returns-clause-told g c = λ d q line others of left.
    let found = c.in_ok-line.ensures line (bytes_behind d q c.args.prepared.now.key c.args.version c.args.own c.args.bytes.now line others left) left.each.0 left.spelled in
    one_as outputs.Log _ _ _ _ _ (ap (λ v. line_bytes v c.args.own c.in_ok-line.line) c.other_version.ensures ∙ ap (λ (l : LogLine). line_bytes (other_version c.args.version) c.args.own l) found.0)
    (step_done _ _ _ c.tell_line_in.result c.in_ok-tell_line_in.field-0 _ c.tell_line_in.ensures c.in_ok-tell_line_in.was)

pub returns-in_err-tell_line_in-clause-told : goal.returns-in_err-tell_line_in-clause-told
returns-in_err-tell_line_in-clause-told g c = λ d q line others of left.
    let found = c.in_ok-line.ensures line (bytes_behind d q c.args.prepared.now.key c.args.version c.args.own c.args.bytes.now line others left) left.each.0 left.spelled in
    one_as outputs.Log _ _ _ _ _ (ap (λ v. line_bytes v c.args.own c.in_ok-line.line) c.other_version.ensures ∙ ap (λ (l : LogLine). line_bytes (other_version c.args.version) c.args.own l) found.0)
    (step_again _ _ _ c.tell_line_in.result c.in_err-tell_line_in.field-0.0 c.from_residual-in_err-tell_line_in.result c.tell_line_in.ensures c.in_err-tell_line_in.was c.from_residual-in_err-tell_line_in.ensures.1)
