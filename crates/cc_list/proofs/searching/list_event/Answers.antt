use Rattle.std.proofs.Common.{subst}
use Rattle.cc_query.specs.Sessions.{IsRightFault}
use Rattle.cc_list.specs.Telling.{counts_of}
use Rattle.cc_tell.specs.Tellers.{IsCounted}
use Rattle.cc_list.proofs.EventNumbers.{event_writable, few_axioms}
use Rattle.cc_list.proofs.Listed.{event_row, event_told, fair_of, goes_next, limit_told, memory_told}
use Rattle.cc_list.proofs.Passing.{stops_at}
use Rattle.cc_list.proofs.Worth.{IsGoodEvent}
use Rattle.cc_list.proofs.searching.list_event.Goals as goal

pub axioms_behind-axioms-requires-clause-few : goal.axioms_behind-axioms-requires-clause-few
axioms_behind-axioms-requires-clause-few g c =
    let of = c.requires.of in
    few_axioms of.0 of.1 _ c.args.session.now c.next.new.self c.in-Ok.event c.in-Ok.ensures.same of.4 c.in-Ok.ensures.opened (c.in-Ok.ensures.event of.0 of.1 of.2 of.4 of.5).0

pub tell_next-requires-clause-row : goal.tell_next-requires-clause-row
tell_next-requires-clause-row g c =
    let of = c.requires.of in
    event_row of.0 of.1 of.2 c.args.described.now.sig c.args.session.now c.next.new.self c.in-Ok.event c.row.result.now of.4 c.requires.same c.row.ensures
    (c.in-Ok.ensures.event of.0 of.1 of.2 of.4 of.5).0

pub tell_next-requires-clause-writable : goal.tell_next-requires-clause-writable
tell_next-requires-clause-writable g c =
    let of = c.requires.of in
    let after = (c.in-Ok.ensures.event of.0 of.1 of.2 of.4 of.5).0 in
    let good : IsGoodEvent of.0 of.1 c.args.session.now.ask.after c.in-Ok.event = record {
      short = c.in-Ok.ensures.short;
      good = c.in-Ok.ensures.good of.0 of.1 of.4;
      opened = c.in-Ok.ensures.opened of.0 of.1 of.4;
      few = c.in-Ok.ensures.few;
    } in
    event_writable of.0 of.1 c.args.session.now.ask c.requires.budget of.2 c.in-Ok.event c.next.new.self.row c.args.teller.now of.6 good
    (fair_of of.0 of.1 c.next.new.self c.args.session.now.ask _ c.in-Ok.ensures.same.ask after) of.7

pub returns-in-Ok-clause-goes : goal.returns-in-Ok-clause-goes
returns-in-Ok-clause-goes g c = λ d q given is is_of after lines keeps.
    let next = c.in-Ok.ensures.event d q given is_of after in
    let same = c.in-Ok.ensures.same in
    let good : IsGoodEvent d q c.args.session.now.ask.after c.in-Ok.event = record {
      short = c.in-Ok.ensures.short;
      good = c.in-Ok.ensures.good d q is_of;
      opened = c.in-Ok.ensures.opened d q is_of;
      few = c.in-Ok.ensures.few;
    } in
    let counted = subst (λ ask. IsCounted (counts_of d q ask.after) c.in-Ok.event c.axioms_behind-axioms.result) same.ask (c.axioms_behind-axioms.ensures.counted d q _ next.0) in
    event_told d q given c.args.teller.now c.tell_next.new.teller c.args.session.now c.next.new.self c.log_laws.ensures c.spent_budgets_are_small.ensures c.requires.budget lines keeps
    c.in-Ok.event good same c.axioms_behind-axioms.result counted next _ _ c.row.result.now c.tell_next.result c.row.ensures
    (c.tell_next.ensures.told d (counts_of d q c.args.session.now.ask.after) given is keeps) c.tell_next.ensures.status c.tell_next.ensures.keeps

pub returns-in-Ok-clause-next : goal.returns-in-Ok-clause-next
returns-in-Ok-clause-next g c =
    goes_next c.args.session.now c.next.new.self c.in-Ok.event c.tell_next.result c.in-Ok.ensures.same c.in-Ok.ensures.more c.in-Ok.ensures.less c.tell_next.ensures.status

pub returns-in-Err-Refused-clause-goes : goal.returns-in-Err-Refused-clause-goes
returns-in-Err-Refused-clause-goes g c = λ d q given is is_of after lines keeps.
    let refused = subst (λ fault. IsRightFault c.args.session.now fault) c.in-Err-Refused.field-0-is c.in-Err-Refused.ensures.refused in
    limit_told d q given c.args.teller.now c.args.teller.now c.args.session.now c.next.new.self c.log_laws.ensures c.spent_budgets_are_small.ensures c.requires.budget lines
    c.in-Err-Refused.refusal _ _ c.tell_limit.result (stops_at d q c.args.session.now given c.in-Err-Refused.refusal is_of c.requires.more after (refused d q given is_of after))
    c.tell_limit.ensures.told c.tell_limit.ensures.status

pub returns-in-Err-OutOfMemory-clause-goes : goal.returns-in-Err-OutOfMemory-clause-goes
returns-in-Err-OutOfMemory-clause-goes g c = λ d q given is is_of after lines keeps.
    memory_told d q given c.args.teller.now c.args.teller.now c.args.session.now c.next.new.self c.log_laws.ensures c.spent_budgets_are_small.ensures c.requires.budget lines _ after
