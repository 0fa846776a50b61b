-- How the parts of a trail make what its holder sees, and what is always true of them.
use Rattle.std.specs.Prelude.{◌≡◌, []}
use Rattle.cc_trail.specs.Trails.{TrailView, IsTrail}
use Rattle.cc_trail.specs.declared.trail.Trail.TheInside.{Inside}

abbrev pub view_of : Inside → TrailView
view_of trail = record {
  variables = trail.entries.variables;
  steps = trail.entries.steps;
  level_count = trail.entries.level_count;
  attached = trail.attached;
  shorts = trail.shorts.items;
  longs = trail.longs.items;
  met = trail.met;
  watched = trail.links.watched;
  pairs = trail.pairs;
  visited = trail.visited;
}

pub record AreParts (trail : Inside) : Type 0 where
  pub trail_is : IsTrail (view_of trail)
  pub variables : trail.links.variables ≡ trail.entries.variables
  pub pairs_variables : trail.pairs.variables ≡ trail.entries.variables
  pub ahead : trail.links.ahead ≡ []
