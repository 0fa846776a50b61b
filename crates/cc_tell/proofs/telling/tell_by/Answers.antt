use Rattle.std.proofs.Common.{ap, subst, sym}
use Rattle.cc_lists.specs.Subjects.{with_row}
use Rattle.cc_tell.specs.EventTexts.{texts_behind}
use Rattle.cc_tell.specs.Tellers.{KeepsUp, manner_of}
use Rattle.cc_tell.proofs.OwnNumbers.{numbered_keeps}
use Rattle.cc_tell.proofs.GivenSteps.{step_as}
use Rattle.cc_tell.proofs.telling.tell_by.Goals as goal

pub returns-in-OneByOne-clause-keeps : goal.returns-in-OneByOne-clause-keeps
returns-in-OneByOne-clause-keeps g c =
    numbered_keeps c.tell_numbered.result c.args.teller.now c.in-OneByOne.version c.in-OneByOne.own c.tell_numbered.new.own c.args.axioms c.args.event.now c.args.row.now
    c.in-OneByOne.is c.tell_numbered.ensures.number

pub returns-in-Summed-clause-told : goal.returns-in-Summed-clause-told
returns-in-Summed-clause-told g c = λ d counts before is keeps.
    let kept = subst (λ teller. KeepsUp counts teller before) c.in-Summed.is keeps in
    step_as _ _ _ _ c.sum.result (ap (λ teller. texts_behind (manner_of counts teller) d before (with_row c.args.event.now c.args.row.now)) (sym c.in-Summed.is))
    (c.sum.ensures.told d before c.args.row.now kept.0 kept.1)
