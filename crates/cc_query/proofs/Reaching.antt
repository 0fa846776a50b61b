-- The horizon that is tried is one of the query's.
use Rattle.std.proofs.Common.{◌≡◌, ◌≤◌, subst, sym}
use Rattle.cc_form.specs.Queries.{IsQueryAt}
use Rattle.cc_lists.specs.Horizons.{last_at}
use Rattle.cc_lists.proofs.Ranges.{within_range}
use Rattle.cc_query.specs.Sessions.{SessionView, IsSession}

pub query_there : (s now : SessionView) → s ≡ now → IsSession s → now.horizon ≤ last_at now.query now.ask.after → IsQueryAt s.signature s.horizon s.query
query_there s now same is low =
    let here : s.horizon ≤ last_at s.query s.ask.after = subst (λ (v : SessionView). v.horizon ≤ last_at v.query v.ask.after) (sym same) low in
    let range = within_range s.signature s.query s.ask.after s.horizon is.askable.key is.first here in
    is.askable.steps s.horizon range.0 range.1
