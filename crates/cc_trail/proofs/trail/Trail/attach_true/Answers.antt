use Rattle.std.proofs.Common.{◌∙◌, ℕ, List, [], ◌∷◌, ◌++◌, ap, refl, subst, sym, arith}
use Rattle.cc_trail.proofs.TrailViews.{over_links, parts_true, parts_kept}
use Rattle.cc_defs.specs.Clauses.{IsLiteralOver}
use Rattle.cc_trail.specs.Trails.{TrailView, IsTrail}
use Rattle.cc_trail.specs.TrailParts.{view_of}
use Rattle.cc_trail.proofs.trail.Trail.attach_true.Goals as goal

pub invariant_of-self-2 : goal.invariant_of-self-2
invariant_of-self-2 c =
    let there = parts_true c.self.inside c.args.self.now c.self.view_is c.self.invariant c.args.id c.push.new.self.items c.args.pair.first c.args.pair.second c.push-2.new.self c.add_two.new.self
    c.push-2.ensures c.in_ok-add_two.ensures.added (c.in_ok-push.ensures.items ∙ ap (λ (ns : List ℕ). ns ++ c.args.id ∷ []) c.reserve.ensures.items) c.requires.first c.requires.open in
    record {
      trail_is = there.0;
      variables = there.1;
      pairs_variables = there.2;
      ahead = there.3;
    }

pub invariant_of-self : goal.invariant_of-self
invariant_of-self c = parts_kept c.self.inside _ c.self.invariant (ap (λ (longs : List ℕ). let v : TrailView = record (view_of c.self.inside) { longs = longs } in v) c.reserve.ensures.items) refl

pub invariant_of-self-in_err-add_two : goal.invariant_of-self-in_err-add_two
invariant_of-self-in_err-add_two c = parts_kept c.self.inside _ c.self.invariant (λ i. record (view_of c.self.inside) { longs = c.reserve.ensures.items i; watched = (c.in_err-add_two.ensures.kept i).watched }) c.in_err-add_two.ensures.kept

pub push-requires-2-clause-over : goal.push-requires-2-clause-over
push-requires-2-clause-over c = (subst (λ (v : TrailView). IsLiteralOver v.variables c.args.pair.first) (sym c.self.view_is) c.requires.first)

pub returns-clause-trail : goal.returns-clause-trail
returns-clause-trail c = subst IsTrail c.self.view_is c.self.invariant.trail_is

pub invariant_of-self-in_err-push : goal.invariant_of-self-in_err-push
invariant_of-self-in_err-push c = absurd (let room = c.in_ok-reserve.ensures.ok in let long = c.reserve.ensures.len in let full = c.in_err-push.ensures.full in omega arith)

pub add_two-requires-clause-a_over : goal.add_two-requires-clause-a_over
add_two-requires-clause-a_over c = over_links c.self.inside c.args.self.now c.self.view_is c.self.invariant c.args.pair.first c.requires.first

pub add_two-requires-clause-b_over : goal.add_two-requires-clause-b_over
add_two-requires-clause-b_over c = over_links c.self.inside c.args.self.now c.self.view_is c.self.invariant c.args.pair.second c.requires.second

pub add_two-requires-clause-apart : goal.add_two-requires-clause-apart
add_two-requires-clause-apart c = c.requires.apart
