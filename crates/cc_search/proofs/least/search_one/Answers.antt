use Rattle.std.proofs.Common.{Option, ap, subst}
use Rattle.std.specs.Prelude.{is_some}
use Rattle.cc_search.specs.declared.least.Outcome.{Outcome}
use Rattle.cc_search.specs.Outcomes.{TellsOutcome}
use Rattle.cc_search.proofs.Searching.{searching}
use Rattle.cc_search.proofs.least.search_one.Goals as goal

pub returns-in-Some-clause-outcome : goal.returns-in-Some-clause-outcome
returns-in-Some-clause-outcome c =
    subst (λ (o : Option Outcome). TellsOutcome c.args.form c.args.budget c.follow.new.search c.follow.new.lines.items o) c.in-Some.is
    (c.in_ok-outcome.ensures.tells c.args.form c.args.budget c.loop-lines.invariant.told)

pub loop-lines-init : goal.loop-lines-init
loop-lines-init c = searching c.args.form c.args.budget c.in_ok-search.search c.new-lines.result.items c.new-lines.ensures.items
    c.in_ok-search.ensures.more c.in_ok-search.ensures.stands c.in_ok-search.ensures.good

pub loop-lines-preserved : goal.loop-lines-preserved
loop-lines-preserved c = record {
  more = (c.in_ok-outcome.ensures.next (ap (λ (o : Option Outcome). is_some o) c.in_default.is)).0;
  told = subst (λ (o : Option Outcome). TellsOutcome c.args.form c.args.budget c.follow.new.search c.follow.new.lines.items o) c.in_default.is
      (c.in_ok-outcome.ensures.tells c.args.form c.args.budget c.loop-lines.invariant.told);
}

pub loop-lines-smaller : goal.loop-lines-smaller
loop-lines-smaller c = (c.in_ok-outcome.ensures.next (ap (λ (o : Option Outcome). is_some o) c.in_default.is)).1

pub follow-requires-clause-more : goal.follow-requires-clause-more
follow-requires-clause-more c = c.loop-lines.invariant.more

pub follow-requires-clause-told : goal.follow-requires-clause-told
follow-requires-clause-told c = (c.args.form, c.args.budget, c.loop-lines.invariant.told)
