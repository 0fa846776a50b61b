use Rattle.std.proofs.Common.{◌∙◌, List, ℕ, subst, sym}
use Rattle.std.proofs.lemmas.Bool.{false≢true}
use Rattle.cc_silent.proofs.RowTexts.{IndexesSoFar, goes_on, none_there, stops_there}
use Rattle.cc_silent.proofs.general.indexes_of.Goals as goal

pub returns-in_default : goal.returns-in_default
returns-in_default c = none_there c.args.text.now c.loop-index.row.items c.loop-index.rest.now c.loop-index.invariant c.in_default.ensures

pub returns-in_default-behind_comma : goal.returns-in_default-behind_comma
returns-in_default-behind_comma c =
    stops_there c.args.text.now c.loop-index.row.items c.loop-index.rest.now c.loop-index.invariant c.in-Some.index c.in-Some.behind.now c.in-Some.ensures
    (λ feed. false≢true (sym c.if-is_line_feed.false ∙ c.is_line_feed.ensures.1 feed)) c.in_default-behind_comma.ensures

pub loop-index-preserved : goal.loop-index-preserved
loop-index-preserved c =
    subst (λ (made : List ℕ). IndexesSoFar c.args.text.now made c.in-Some-behind_comma.next.now) (sym c.in_ok-push.ensures.items)
    (goes_on c.args.text.now c.loop-index.row.items c.loop-index.rest.now c.loop-index.invariant c.in-Some.index c.in-Some.behind.now c.in-Some.ensures c.in-Some-behind_comma.next.now c.in-Some-behind_comma.ensures)
