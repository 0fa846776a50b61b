use Rattle.std.proofs.Common.{arith, subst, sym, ap, ◌∙◌}
use Rattle.indexmap.specs.IndexSet.{insert_key}
use Rattle.cc_sorts.specs.Searches.{IsSearched, same_key}
use Rattle.cc_sorts.proofs.Upward.{searched_first, searched_step, searched_all, within_first, within_more, few_found, closed_none, is_within, Keys}
use Rattle.cc_sorts.proofs.left.Left.search_above.Goals as goal

pub search-init : goal.search-init
search-init c =
    let first = sym (c.in_ok-put_found.ensures ∙ ap (λ (keys : Keys). insert_key same_key keys c.args.lower) c.requires.found) in (
      subst (λ (keys : Keys). IsSearched c.args.self.now c.args.lower.now keys 0) first (searched_first c.args.self.now c.args.lower),
      subst (λ (keys : Keys). is_within c.args.self.now c.args.lower.now keys) first (within_first c.args.self.now c.args.lower),
      closed_none c.args.self.now c.args.closed.now.keys c.put_found.new.found.keys c.requires.closed,
    )

pub search-smaller : goal.search-smaller
search-smaller c =
    let few = few_found c.args.self.now c.args.lower.now c.search.found.keys c.search.invariant.1 c.len.ensures.unique
    in omega (arith, few, c.search-test.true, c.len.ensures.len)

pub search-preserved : goal.search-preserved
search-preserved c = (
  searched_step c.args.self.now c.args.lower.now c.search.found.keys c.add_above.new.found.keys c.search.done c.index-sort.result.now c.index-sort.ensures c.in_ok-add_above.ensures.grown c.search.invariant.0,
  within_more c.args.self.now c.args.lower.now c.index-sort.result.now.now c.search.found.keys c.add_above.new.found.keys c.in_ok-add_above.ensures.grown c.search.invariant.1,
  c.in_ok-add_above.ensures.closed,
)

pub returns : goal.returns
returns c = searched_all c.args.self.now c.args.lower.now c.search.found.keys c.search.done (omega (arith, c.search-test.false, c.len.ensures.len)) c.search.invariant.0
