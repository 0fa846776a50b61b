use Rattle.std.proofs.Common.{◌≡◌, ◌∙◌, ℕ, List, ◌∷◌, ◌++◌, [], refl, subst, ap, sym, arith}
use Rattle.cc_trail.specs.Links.{LinksView}
use Rattle.cc_trail.specs.Trails.{TrailView, IsLong}
use Rattle.cc_trail.specs.TrailParts.{view_of}
use Rattle.cc_defs.specs.Clauses.{IsLiteralOver}
use Rattle.cc_trail.proofs.TrailViews.{over_links, parts_kept, parts_long}
use Rattle.cc_trail.proofs.trail.Trail.attach_long.Goals as goal

pub returns-clause-attached : goal.returns-clause-attached
returns-clause-attached c =
    let longs : c.push.new.self.items ≡ c.self.inside.longs.items ++ c.args.id ∷ [] =
    c.in_ok-push.ensures.items ∙ ap (λ (ns : List ℕ). ns ++ c.args.id ∷ []) c.reserve.ensures.items in
    let watched : c.add_two.new.self.watched ≡ c.self.inside.links.watched ++ c.args.pair.first ∷ c.args.pair.second ∷ [] =
    ap (λ (v : LinksView). v.watched) c.in_ok-add_two.ensures.added in
    let long : IsLong (view_of c.self.inside) (record (view_of c.self.inside) {
      attached = c.args.id;
      longs = c.push.new.self.items;
      watched = c.add_two.new.self.watched;
      visited = c.entries_before-self-inside.result;
    }) c.args.id c.args.pair.first c.args.pair.second = record {
      variables = refl;
      steps = refl;
      level_count = refl;
      attached = refl;
      shorts = refl;
      longs = longs;
      met = refl;
      pairs = refl;
      watched = watched;
      fewer = c.entries_before-self-inside.ensures.fewer;
      first_open = c.entries_before-self-inside.ensures.one;
      second_open = c.entries_before-self-inside.ensures.two;
    } in
    subst (λ (v : TrailView). IsLong v (record (view_of c.self.inside) {
      attached = c.args.id;
      longs = c.push.new.self.items;
      watched = c.add_two.new.self.watched;
      visited = c.entries_before-self-inside.result;
    }) c.args.id c.args.pair.first c.args.pair.second) c.self.view_is long

pub invariant_of-self : goal.invariant_of-self
invariant_of-self c = parts_kept c.self.inside _ c.self.invariant (ap (λ (longs : List ℕ). let v : TrailView = record (view_of c.self.inside) { longs = longs } in v) c.reserve.ensures.items) refl

pub invariant_of-self-in_err-add_two : goal.invariant_of-self-in_err-add_two
invariant_of-self-in_err-add_two c = parts_kept c.self.inside _ c.self.invariant (λ i. record (view_of c.self.inside) { longs = c.reserve.ensures.items i; watched = (c.in_err-add_two.ensures.kept i).watched }) c.in_err-add_two.ensures.kept

pub entries_before-self-inside-requires-clause-one : goal.entries_before-self-inside-requires-clause-one
entries_before-self-inside-requires-clause-one c = (subst (λ (v : TrailView). IsLiteralOver v.variables c.args.pair.first) (sym c.self.view_is) c.requires.first).1

pub entries_before-self-inside-requires-clause-two : goal.entries_before-self-inside-requires-clause-two
entries_before-self-inside-requires-clause-two c = (subst (λ (v : TrailView). IsLiteralOver v.variables c.args.pair.second) (sym c.self.view_is) c.requires.second).1

pub invariant_of-self-2 : goal.invariant_of-self-2
invariant_of-self-2 c =
    let there = parts_long c.self.inside c.self.invariant c.args.id c.entries_before-self-inside.result c.push.new.self.items c.args.pair.first c.args.pair.second c.add_two.new.self c.entries_before-self-inside.ensures.fewer
    c.in_ok-add_two.ensures.added (c.in_ok-push.ensures.items ∙ ap (λ (ns : List ℕ). ns ++ c.args.id ∷ []) c.reserve.ensures.items) in
    record { trail_is = there.0; variables = there.1; pairs_variables = c.self.invariant.pairs_variables; ahead = there.2 }

pub invariant_of-self-in_err-push : goal.invariant_of-self-in_err-push
invariant_of-self-in_err-push c = absurd (let room = c.in_ok-reserve.ensures.ok in let long = c.reserve.ensures.len in let full = c.in_err-push.ensures.full in omega arith)

pub add_two-requires-clause-a_over : goal.add_two-requires-clause-a_over
add_two-requires-clause-a_over c = over_links c.self.inside c.args.self.now c.self.view_is c.self.invariant c.args.pair.first c.requires.first

pub add_two-requires-clause-b_over : goal.add_two-requires-clause-b_over
add_two-requires-clause-b_over c = over_links c.self.inside c.args.self.now c.self.view_is c.self.invariant c.args.pair.second c.requires.second

pub add_two-requires-clause-apart : goal.add_two-requires-clause-apart
add_two-requires-clause-apart c = c.requires.apart
