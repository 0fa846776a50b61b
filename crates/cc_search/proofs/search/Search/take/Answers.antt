use Rattle.std.proofs.Common.{◌∙◌, ap, subst, sym}
use Rattle.cc_search.specs.declared.stage.Stage.{Stage}
use Rattle.cc_search.specs.Searches.{SearchView, IsReady}
use Rattle.cc_search.proofs.search.Search.take.Goals as goal

pub returns-clause-ready : goal.returns-clause-ready
returns-clause-ready c =
    subst (λ (g : Stage). IsReady c.args.self.now.ask g) (sym (c.replace.ensures.value ∙ ap (λ (v : SearchView). v.stage) c.self.view_is))
    (subst (λ (v : SearchView). IsReady v.ask v.stage) c.self.view_is c.self.invariant.ready)

pub invariant_of-self : goal.invariant_of-self
invariant_of-self c = record {
  budget = c.self.invariant.budget;
  ready = subst (λ (g : Stage). IsReady c.self.inside.ask g) (sym c.replace.ensures.after) tt;
}
