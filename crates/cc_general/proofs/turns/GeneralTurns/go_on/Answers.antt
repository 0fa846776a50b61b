use Rattle.cc_general.specs.Generals.{IsRightFault}
use Rattle.cc_general.proofs.Telling.{only_memory, told_gives, walk_fault}
use Rattle.cc_silent.proofs.Errors.{errs_with}
use Rattle.cc_general.proofs.turns.GeneralTurns.go_on.Goals as goal

pub returns-in_err-halt-clause-fault : goal.returns-in_err-halt-clause-fault
returns-in_err-halt-clause-fault c =
    errs_with (IsRightFault _) c.from_residual.result c.in_err-halt.field-0.0 c.from_residual.ensures.1
    (walk_fault c.args.self.now c.args.search c.args.lines c.requires.listing c.requires.wanting c.in_err-halt.field-0.0 c.in_err-halt.ensures.fault)

pub tell-requires-clause-come : goal.tell-requires-clause-come
tell-requires-clause-come c = (c.args.search, c.args.lines, c.requires.listing, c.in_ok-halt.ensures.comes)

pub returns-clause-gives : goal.returns-clause-gives
returns-clause-gives c =
    told_gives c.args.self.now c.tell.new.self c.args.search c.walk.new.search c.args.lines c.walk.new.lines.items c.in_ok-halt.halt c.tell.result
    c.requires.listing c.in_ok-halt.ensures.comes c.tell.ensures.told

pub returns-clause-fault : goal.returns-clause-fault
returns-clause-fault c = only_memory _ c.tell.result c.tell.ensures.fault
