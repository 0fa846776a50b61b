use Rattle.std.proofs.Common.{refl, subst, ap, sym}
use Rattle.cc_trail.specs.Trails.{TrailView, IsPairLong}
use Rattle.cc_trail.specs.TrailParts.{view_of}
use Rattle.cc_trail.proofs.TrailViews.{parts_pair, parts_kept}
use Rattle.cc_trail.proofs.Ranking.{true_is_false}
use Rattle.cc_defs.specs.Clauses.{IsLiteralOver}
use Rattle.cc_trail.specs.Pairs.{PairsView}
use Rattle.cc_trail.proofs.trail.Trail.attach_pair.Goals as goal

pub returns-clause-attached : goal.returns-clause-attached
returns-clause-attached c _ =
    let long : IsPairLong (view_of c.self.inside) (record (view_of c.self.inside) {
      attached = c.args.id;
      pairs = c.add.new.self;
      visited = c.entries_before-self-inside.result;
    }) c.args.id c.args.first c.args.second = record {
      variables = refl;
      steps = refl;
      level_count = refl;
      attached = refl;
      shorts = refl;
      longs = refl;
      met = refl;
      watched = refl;
      pairs = c.add.ensures.added c.if-not-add.false;
      fewer = c.entries_before-self-inside.ensures.fewer;
      first_open = c.entries_before-self-inside.ensures.one;
      second_open = c.entries_before-self-inside.ensures.two;
    } in
    subst (λ (v : TrailView). IsPairLong v (record (view_of c.self.inside) {
      attached = c.args.id;
      pairs = c.add.new.self;
      visited = c.entries_before-self-inside.result;
    }) c.args.id c.args.first c.args.second) c.self.view_is long

pub invariant_of-self-2 : goal.invariant_of-self-2
invariant_of-self-2 c =
    parts_pair c.self.inside _ c.self.invariant refl refl refl (c.add.ensures.added c.if-not-add.false).variables c.entries_before-self-inside.ensures.fewer

pub returns-then-not-add-clause-attached : goal.returns-then-not-add-clause-attached
returns-then-not-add-clause-attached c = λ no. absurd (true_is_false _ no refl)

pub invariant_of-self : goal.invariant_of-self
invariant_of-self c = parts_kept c.self.inside _ c.self.invariant (ap (λ (pairs : PairsView). let v : TrailView = record (view_of c.self.inside) { pairs = pairs } in v) (c.add.ensures.kept c.if-not-add.true)) refl

pub entries_before-self-inside-requires-clause-one : goal.entries_before-self-inside-requires-clause-one
entries_before-self-inside-requires-clause-one c = (subst (λ (v : TrailView). IsLiteralOver v.variables c.args.first) (sym c.self.view_is) c.requires.first).1

pub entries_before-self-inside-requires-clause-two : goal.entries_before-self-inside-requires-clause-two
entries_before-self-inside-requires-clause-two c = (subst (λ (v : TrailView). IsLiteralOver v.variables c.args.second) (sym c.self.view_is) c.requires.second).1
