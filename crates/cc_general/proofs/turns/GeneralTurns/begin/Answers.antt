use Rattle.cc_general.specs.Generals.{IsRightFault}
use Rattle.cc_general.proofs.Telling.{all_begun_fault, all_begun_gives, begun_ready, form_fault}
use Rattle.cc_silent.proofs.Errors.{errs_with}
use Rattle.cc_general.proofs.turns.GeneralTurns.begin.Goals as goal

pub returns-in_err-search-clause-fault : goal.returns-in_err-search-clause-fault
returns-in_err-search-clause-fault c =
    errs_with (IsRightFault _) c.from_residual.result c.in_err-search.field-0.0 c.from_residual.ensures.1
    (form_fault c.args.self.now c.requires.low c.in_err-search.ensures.count c.in_err-search.field-0.0 c.in_err-search.ensures.refused)

pub list-requires-clause-ready : goal.list-requires-clause-ready
list-requires-clause-ready c =
    begun_ready c.args.self.now c.in_ok-search.search c.new-lines.result c.requires.ready.0 c.new-lines.ensures.items c.in_ok-search.ensures.among
    c.in_ok-search.ensures.count c.in_ok-search.ensures.listing

pub returns-clause-gives : goal.returns-clause-gives
returns-clause-gives c =
    all_begun_gives c.args.self.now c.in_ok-search.search c.new-lines.result c.requires.ready.0 c.new-lines.ensures.items c.in_ok-search.ensures.among
    c.list.new.self c.list.result c.list.ensures.gives

pub returns-clause-fault : goal.returns-clause-fault
returns-clause-fault c =
    all_begun_fault c.args.self.now c.in_ok-search.search c.new-lines.result c.requires.ready.0 c.new-lines.ensures.items c.in_ok-search.ensures.among
    c.list.result c.list.ensures.fault
