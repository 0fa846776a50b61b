use Rattle.std.proofs.Common.{◌+◌, ◌≤◌, Option, Some, None, ap, arith, refl, subst, sym}
use Rattle.cc_arena.specs.GroundViews.{plain_ground_query}
use Rattle.cc_defs.specs.declared.lists.Key.{Key}
use Rattle.cc_defs.specs.GroundLaws.{PlainGroundQuery}
use Rattle.cc_form.specs.Steps.{TemplateView}
use Rattle.cc_lists.specs.Horizons.{first_at, last_at}
use Rattle.cc_query.specs.Sessions.{IsAskable}
use Rattle.cc_query.proofs.Beginning.{nothing_given, opening_more}
use Rattle.cc_query.proofs.session.Session.new.Goals as goal

pub returns-clause-begun : goal.returns-clause-begun
returns-clause-begun c = λ d q of. nothing_given _ c.args.query.claim c.first_part-part.result d q of refl
    c.first_part-part.ensures.histories c.first_part-part.ensures.conditions c.first_horizon-horizon.ensures refl refl c.requires.ordered

in_range : (query : PlainGroundQuery) (key : Option Key) → query.lo ≤ query.hi → first_at query key ≤ last_at query key + 1
in_range query None ordered = omega arith
in_range query (Some key) ordered = omega arith

pub invariant_of-result : goal.invariant_of-result
invariant_of-result c = record {
  askable = subst (λ (v : TemplateView). IsAskable v.signature v.laws (plain_ground_query c.args.query) c.args.ask) (sym c.new.ensures)
      (record { laws_fit = c.requires.laws; ordered = c.requires.ordered; most = c.requires.most; steps = c.requires.steps; key = c.requires.key; count = c.requires.count; budget = c.requires.budget });
  first = (let is = c.first_horizon-horizon.ensures in omega arith);
  ready = (let is = c.first_horizon-horizon.ensures in let within = in_range (plain_ground_query c.args.query) c.args.ask.after c.requires.ordered in omega arith);
}

pub returns-clause-signature : goal.returns-clause-signature
returns-clause-signature c = ap (λ (v : TemplateView). v.signature) c.new.ensures

pub returns-clause-laws : goal.returns-clause-laws
returns-clause-laws c = ap (λ (v : TemplateView). v.laws) c.new.ensures

pub returns-clause-query : goal.returns-clause-query
returns-clause-query c = refl

pub returns-clause-ask : goal.returns-clause-ask
returns-clause-ask c = refl

pub returns-clause-more : goal.returns-clause-more
returns-clause-more c = opening_more c.first_part-part.result
