use Rattle.cc_list.specs.Listing.{listing_promise}
use Rattle.cc_words.specs.Views.{listing_by}
use Rattle.cc_list.proofs.WholeRuns.{list_may, runs_ended, runs_stopped}
use Rattle.cc_list.proofs.running.list_to_end.Goals as goal

pub returns-in-Ok : goal.returns-in-Ok
returns-in-Ok g c = runs_ended (listing_promise (listing_by c.args.asked.now)) _ _ c.list.result _ c.in-Ok.is list_may c.list.ensures

pub returns-in-Err : goal.returns-in-Err
returns-in-Err g c = runs_stopped (listing_promise (listing_by c.args.asked.now)) _ _ _ c.list.result _ _ c.in-Err.is c.list.ensures c.tell_stop.ensures
