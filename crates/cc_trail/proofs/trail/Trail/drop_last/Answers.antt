use Rattle.std.proofs.Common.{◌∙◌, ◌-◌, ℕ, ap, length, take}
use Rattle.cc_trail.specs.Trails.{without_last}
use Rattle.cc_trail.specs.Links.{LinksView}
use Rattle.cc_trail.specs.TrailParts.{view_of}
use Rattle.cc_trail.proofs.Dropping.{taken_twice}
use Rattle.cc_trail.proofs.trail.Trail.drop_last.Goals as goal

pub returns-clause-dropped : goal.returns-clause-dropped
returns-clause-dropped c =
    let inside = c.self.inside in
    let longs_are = c.pop.ensures.rest ∙ ap (λ (n : ℕ). take (n - 1) inside.longs.items) inside.longs.ok.0 in
    let watched_are = ap (λ (v : LinksView). v.watched) c.remove_last-2.ensures ∙ ap (λ (v : LinksView). take (length v.watched - 1) v.watched) c.remove_last.ensures ∙ taken_twice inside.links.watched in
    (λ i. record (view_of inside) { longs = longs_are i; watched = watched_are i }) ∙ ap without_last c.self.view_is
