use Rattle.std.proofs.Common.{Some, subst, sym}
use Rattle.std.proofs.lemmas.Bool.{false≢true}
use Rattle.cc_lists.specs.Sections.{open_section}
use Rattle.cc_search.specs.declared.stage.Find.{Find}
use Rattle.cc_search.specs.Searches.{GoesOn}
use Rattle.cc_search.proofs.Searching.{closes, errs_as, line_told, not_found, only_memory, outcome_is, row_told_first}
use Rattle.cc_search.proofs.least.follow.Goals as goal

pub returns-in_err-line-clause-fault : goal.returns-in_err-line-clause-fault
returns-in_err-line-clause-fault c =
    let (axioms, budget, told) = c.requires.told in
    errs_as c.from_residual.result c.in_err-line.field-0.0 c.from_residual.ensures.1
    (only_memory axioms budget c.args.search.now c.args.lines.now.items c.in_err-line.field-0.0 told c.in_err-line.ensures.refused)

pub outcome_of-requires : goal.outcome_of-requires
outcome_of-requires c =
    let (axioms, budget, told) = c.requires.told in
    let comes = c.in_ok-line.ensures.tells axioms (Some 1) budget (open_section told.steps) told.stands in
    not_found axioms budget c.args.search.now c.next.new.self c.args.lines.now.items told c.in-End.word
    (closes axioms budget c.args.search.now c.next.new.self c.args.lines.now.items told c.in_ok-line.field-0 c.in-End.word comes c.in-End.is)

pub returns-in_ok-push-in-Line-clause-tells : goal.returns-in_ok-push-in-Line-clause-tells
returns-in_ok-push-in-Line-clause-tells c = λ axioms budget told.
    line_told axioms budget c.args.search.now c.next.new.self c.args.lines.now.items told c.in_ok-line.field-0 c.in-Line.line c.push.new.self.items
    (c.in_ok-line.ensures.tells axioms (Some 1) budget (open_section told.steps) told.stands) c.in_ok-line.ensures.short c.in-Line.is c.in_ok-push-in-Line.ensures.items

pub returns-in_ok-row-in-Row-clause-tells : goal.returns-in_ok-row-in-Row-clause-tells
returns-in_ok-row-in-Row-clause-tells c = λ axioms budget told.
    row_told_first axioms budget c.args.search.now c.next.new.self c.args.lines.now.items told c.in_ok-line.field-0 c.in_ok-row-in-Row.row
    (c.in_ok-line.ensures.tells axioms (Some 1) budget (open_section told.steps) told.stands) c.in-Row.is c.in_ok-row-in-Row.ensures

pub returns-in_ok-outcome-in-End-clause-tells : goal.returns-in_ok-outcome-in-End-clause-tells
returns-in_ok-outcome-in-End-clause-tells c = λ axioms budget told.
    let comes = c.in_ok-line.ensures.tells axioms (Some 1) budget (open_section told.steps) told.stands in
    outcome_is axioms budget c.args.search.now c.next.new.self c.args.lines.now.items told c.in-End.word c.replace-all.result.items c.in_ok-outcome-in-End.outcome
    (closes axioms budget c.args.search.now c.next.new.self c.args.lines.now.items told c.in_ok-line.field-0 c.in-End.word comes c.in-End.is)
    (λ i. (c.replace-all.ensures.value i).items) c.in_ok-outcome-in-End.ensures.empty c.in_ok-outcome-in-End.ensures.spent

pub returns-in_ok-push-in-Line-clause-next : goal.returns-in_ok-push-in-Line-clause-next
returns-in_ok-push-in-Line-clause-next c = λ none. (subst (λ (f : Find). GoesOn c.next.new.self f) c.in-Line.is c.in_ok-line.ensures.goes, c.in_ok-line.ensures.less)

pub returns-in_ok-outcome-in-End-clause-next : goal.returns-in_ok-outcome-in-End-clause-next
returns-in_ok-outcome-in-End-clause-next c = λ none. absurd (false≢true (sym none))

pub returns-in_ok-row-in-Row-clause-next : goal.returns-in_ok-row-in-Row-clause-next
returns-in_ok-row-in-Row-clause-next c = λ none. absurd (false≢true (sym none))
