use Rattle.cc_general.specs.Walks.{IsWalkFault}
use Rattle.cc_silent.proofs.Errors.{errs_with}
use Rattle.cc_general.proofs.Walking.{end_comes, line_comes, not_found, row_comes, row_fault, row_fits, search_fault}
use Rattle.cc_general.proofs.turns.GeneralTurns.turn.Goals as goal

pub returns-in_err-line-clause-fault : goal.returns-in_err-line-clause-fault
returns-in_err-line-clause-fault c =
    errs_with (IsWalkFault c.args.self.now c.args.search.now c.args.lines.now.items) c.from_residual.result c.in_err-line.field-0.0 c.from_residual.ensures.1
    (search_fault c.histories_have_no_rivals.ensures c.args.self.now c.args.search.now c.args.lines.now.items c.requires c.in_err-line.field-0.0 c.in_err-line.ensures.refused)

pub judge-requires-clause-row : goal.judge-requires-clause-row
judge-requires-clause-row c =
    row_fits c.histories_have_no_rivals.ensures c.args.self.now c.args.search.now c.args.lines.now.items c.requires c.next.new.self
    c.in_ok-line.field-0 c.in-Row.is c.in_ok-line.ensures.tells c.row.result.now c.row.ensures

pub end_at-requires : goal.end_at-requires
end_at-requires c =
    not_found c.histories_have_no_rivals.ensures c.args.self.now c.args.search.now c.args.lines.now.items c.requires c.next.new.self
    c.in_ok-line.field-0 c.in-End.word c.in-End.is c.in_ok-line.ensures.tells

pub returns-in_ok-push-in-Line-clause-comes : goal.returns-in_ok-push-in-Line-clause-comes
returns-in_ok-push-in-Line-clause-comes c =
    line_comes c.histories_have_no_rivals.ensures c.args.self.now c.args.search.now c.args.lines.now.items c.requires c.next.new.self
    c.in_ok-line.field-0 c.in-Line.line c.push.new.self.items c.in-Line.is c.in_ok-line.ensures.tells c.in_ok-line.ensures.short c.in_ok-line.ensures.less
    c.in_ok-line.ensures.goes c.in_ok-push-in-Line.ensures.items

pub returns-in-Row-clause-comes : goal.returns-in-Row-clause-comes
returns-in-Row-clause-comes c =
    row_comes c.histories_have_no_rivals.ensures c.args.self.now c.args.search.now c.args.lines.now.items c.requires c.next.new.self
    c.in_ok-line.field-0 c.in-Row.is c.in_ok-line.ensures.tells c.row.result.now c.judge.result c.row.ensures c.judge.ensures.judged c.in_ok-line.ensures.less
    c.in_ok-line.ensures.goes

pub returns-in-Row-clause-fault : goal.returns-in-Row-clause-fault
returns-in-Row-clause-fault c =
    row_fault c.histories_have_no_rivals.ensures c.args.self.now c.args.search.now c.args.lines.now.items c.requires c.next.new.self
    c.in_ok-line.field-0 c.in-Row.is c.in_ok-line.ensures.tells c.row.result.now c.judge.result c.row.ensures c.judge.ensures.refused

pub returns-in-End-clause-comes : goal.returns-in-End-clause-comes
returns-in-End-clause-comes c =
    end_comes c.histories_have_no_rivals.ensures c.args.self.now c.args.search.now c.args.lines.now.items c.requires c.next.new.self
    c.in_ok-line.field-0 c.in-End.word c.in-End.is c.in_ok-line.ensures.tells c.end_at.result c.end_at.ensures.empty c.end_at.ensures.spent c.in_ok-line.ensures.less
