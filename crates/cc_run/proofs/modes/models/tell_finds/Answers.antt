use Rattle.std.proofs.Common.{Ok, ap, ◌∙◌}
use Rattle.std.specs.Prelude.{is_some}
use Rattle.cc_run.proofs.ModelFinds.{listing_begins, listing_ends, listing_next, listing_stops}
use Rattle.cc_run.proofs.modes.models.tell_finds.Goals as goal

pub loop-search-init : goal.loop-search-init
loop-search-init g c = listing_begins c.args.lister c.args.search _ c.requires.more c.requires.at

pub loop-search-preserved : goal.loop-search-preserved
loop-search-preserved g c =
    let next = (rw c.in_ok-status.was at c.tell_find.ensures.next) (ap is_some c.in-None.is) in
    listing_next c.args.lister c.loop-search.lister c.tell_find.new.lister c.args.search c.loop-search.search c.tell_find.new.search _ _ _
    c.tell_find.result c.loop-search.invariant c.tell_find.ensures.tells (c.in_ok-status.was ∙ ap Ok c.in-None.is) c.tell_find.ensures.version next.0

pub returns-in_err-status : goal.returns-in_err-status
returns-in_err-status g c =
    listing_stops c.args.lister c.loop-search.lister c.tell_find.new.lister c.args.search c.loop-search.search c.tell_find.new.search _ _ _
    c.tell_find.result c.loop-search.invariant c.tell_find.ensures.tells c.in_err-status.field-0.0 c.from_residual.result c.in_err-status.was c.from_residual.ensures.1

pub returns-in-Some : goal.returns-in-Some
returns-in-Some g c =
    listing_ends c.args.lister c.loop-search.lister c.tell_find.new.lister c.args.search c.loop-search.search c.tell_find.new.search _ _ _
    c.tell_find.result c.loop-search.invariant c.tell_find.ensures.tells c.in-Some.status (c.in_ok-status.was ∙ ap Ok c.in-Some.is)
