use Rattle.cc_arena.specs.GroundViews.{plain_ground_query}
use Rattle.cc_list.specs.Telling.{counts_of, task_of}
use Rattle.cc_tell.specs.Manners.{header_told}
use Rattle.cc_tell.specs.Tellers.{manner_of}
use Rattle.cc_tell.specs.Givens.{nothing, only_log}
use Rattle.cc_list.proofs.Listed.{header_cut, header_lacks, search_as, search_behind, session_of}
use Rattle.cc_list.proofs.Passing.{no_run_is_fair}
use Rattle.cc_list.proofs.searching.search.Goals as goal

pub returns-in_err-give_header : goal.returns-in_err-give_header
returns-in_err-give_header g c = λ d q is of.
    let counts = counts_of d q c.args.ask.after in
    header_cut (manner_of counts c.args.teller) (task_of d q c.args.ask) _ _ (no_run_is_fair (plain_ground_query c.args.query) d q c.args.ask of.query_is c.requires.searchable.ordered)
    c.give_header.result c.in_err-give_header.field-0.0 c.from_residual.result (c.give_header.ensures counts) c.in_err-give_header.was c.from_residual.ensures.1

pub returns-in_err-session : goal.returns-in_err-session
returns-in_err-session g c = λ d q is of.
    let counts = counts_of d q c.args.ask.after in
    header_lacks (manner_of counts c.args.teller) (task_of d q c.args.ask) _ _ (no_run_is_fair (plain_ground_query c.args.query) d q c.args.ask of.query_is c.requires.searchable.ordered)
    c.give_header.result c.in_ok-give_header.field-0 c.from_residual-in_err-session.result (c.give_header.ensures counts) c.in_ok-give_header.was c.from_residual-in_err-session.ensures.1

pub list_events-requires-clause-of : goal.list_events-requires-clause-of
list_events-requires-clause-of g c =
    let of = c.requires.of in
    let session = c.in_ok-session.session in
    let of_it = session_of session c.args.described.now.sig c.args.laws.now (plain_ground_query c.args.query) of.0 of.1 c.in_ok-session.ensures.signature c.in_ok-session.ensures.laws
    c.in_ok-session.ensures.query of.3 in
    (of.0, of.1, of.2, of_it, c.in_ok-session.ensures.begun of.0 of.1 of_it)

pub returns : goal.returns
returns g c = λ d q is of.
    let session = c.in_ok-session.session in
    let counts = counts_of d q c.args.ask.after in
    let of_it = session_of session c.args.described.now.sig c.args.laws.now (plain_ground_query c.args.query) d q c.in_ok-session.ensures.signature c.in_ok-session.ensures.laws
    c.in_ok-session.ensures.query of in
    search_behind (manner_of counts c.args.teller) (task_of d q c.args.ask) nothing (only_log (header_told (manner_of counts c.args.teller))) _ _ _ c.give_header.result
    c.in_ok-give_header.field-0 c.list_events.result (c.give_header.ensures counts) c.in_ok-give_header.was
    (search_as c.args.teller d q session.ask c.args.ask _ _ c.list_events.result c.in_ok-session.ensures.ask
    (c.list_events.ensures d q is of_it (c.in_ok-session.ensures.begun d q of_it)))
