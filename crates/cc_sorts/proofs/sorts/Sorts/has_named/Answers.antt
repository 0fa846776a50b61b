use Rattle.std.proofs.Common.{◌∙◌, ap, sym}
use Rattle.cc_sorts.specs.Dictionaries.{number_of}
use Rattle.cc_sorts.specs.SortViews.{SortsView}
use Rattle.cc_sorts.proofs.Uppers.{named_pair, without_upper, without_lower, found_name}
use Rattle.cc_sorts.proofs.sorts.Sorts.has_named.Goals as goal

pub returns-in-Some-find : goal.returns-in-Some-find
returns-in-Some-find c =
    c.has_pair.ensures
    ∙ named_pair c.args.self.now c.args.upper.now c.args.lower.now c.in-Some.upper c.in-Some-find.lower
    (sym (ap (λ (view : SortsView). number_of view.names c.args.upper.now) c.self.view_is) ∙ sym c.find.ensures ∙ c.in-Some.is)
    (sym (ap (λ (view : SortsView). number_of view.names c.args.lower.now) c.self.view_is) ∙ sym c.find-in-Some.ensures ∙ c.in-Some-find.is)

pub returns-in-None-find : goal.returns-in-None-find
returns-in-None-find c =
    without_lower c.self.inside c.args.self.now c.self.view_is c.self.invariant c.args.lower.now
    (sym (ap (λ (view : SortsView). number_of view.names c.args.lower.now) c.self.view_is) ∙ sym c.find-in-Some.ensures ∙ c.in-None-find.is) c.args.upper.now

pub returns-in-None : goal.returns-in-None
returns-in-None c =
    without_upper c.self.inside c.args.self.now c.self.view_is c.self.invariant c.args.upper.now
    (sym (ap (λ (view : SortsView). number_of view.names c.args.upper.now) c.self.view_is) ∙ sym c.find.ensures ∙ c.in-None.is) c.args.lower.now

pub has_pair-requires-clause-upper : goal.has_pair-requires-clause-upper
has_pair-requires-clause-upper c = (found_name c.args.self.now.names c.args.upper.now c.in-Some.upper (ap (λ (v : SortsView). number_of v.names c.args.upper.now) (sym c.self.view_is) ∙ sym c.find.ensures ∙ c.in-Some.is)).0

pub has_pair-requires-clause-lower : goal.has_pair-requires-clause-lower
has_pair-requires-clause-lower c = (found_name c.args.self.now.names c.args.lower.now c.in-Some-find.lower (ap (λ (v : SortsView). number_of v.names c.args.lower.now) (sym c.self.view_is) ∙ sym c.find-in-Some.ensures ∙ c.in-Some-find.is)).0
