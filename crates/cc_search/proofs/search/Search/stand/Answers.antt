use Rattle.std.proofs.Common.{subst, sym}
use Rattle.cc_search.specs.Searches.{SearchView, IsReady}
use Rattle.cc_search.proofs.search.Search.stand.Goals as goal

pub invariant_of-self : goal.invariant_of-self
invariant_of-self c = record {
  budget = c.self.invariant.budget;
  ready = subst (λ (v : SearchView). IsReady v.ask c.args.stage) (sym c.self.view_is) c.requires;
}
