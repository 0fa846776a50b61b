use Rattle.std.proofs.Common.{refl}
use Rattle.cc_defs.specs.Runs.{optional}
use Rattle.cc_list.specs.Listing.{listing_promise}
use Rattle.cc_words.specs.Views.{listing_by}
use Rattle.cc_list.proofs.Outcomes.{begins_named, lists_for, prints_search, prints_unbegun}
use Rattle.cc_list.proofs.listing.list_prepared.Goals as goal

pub returns-in_err-begin_log : goal.returns-in_err-begin_log
returns-in_err-begin_log g c d q of are task =
    let listing = listing_by c.args.asked.now in
    let names = optional listing.log in
    prints_unbegun (listing_promise listing) _ names _ _ c.begin_log.result c.in_err-begin_log.field-0.0 c.from_residual.result refl
    (begins_named c.args.asked.now.log names _ _ c.begin_log.result c.begin_log.ensures) c.in_err-begin_log.was c.from_residual.ensures.1

pub returns : goal.returns
returns g c d q of are task =
    let listing = listing_by c.args.asked.now in
    let names = optional listing.log in
    prints_search (listing_promise listing) _ names _ _ _ _ _ c.begin_log.result c.in_ok-begin_log.field-0 c.search.result
    (lists_for listing names _ _ _ refl refl refl refl task)
    (begins_named c.args.asked.now.log names _ _ c.begin_log.result c.begin_log.ensures) c.in_ok-begin_log.was (c.search.ensures d q of are)
