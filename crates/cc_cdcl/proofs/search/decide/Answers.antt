use Rattle.std.proofs.Common.{◌≡◌, ◌∙◌, ◌+◌, set, sym, subst, ap, arith}
use Rattle.std.proofs.Math.ListN.{length-set}
use Rattle.cc_trail.specs.Trails.{TrailView}
use Rattle.cc_cdcl.specs.Cursors.{AreCursors}
use Rattle.cc_cdcl.proofs.Placing.{cursors_decided, level_within}
use Rattle.cc_cdcl.proofs.Probing.{decided_longer}
use Rattle.cc_cdcl.proofs.Stepping.{steps_few}
use Rattle.cc_cdcl.proofs.search.decide.Goals as goal

pub bounds-cursors-level_count : goal.bounds-cursors-level_count
bounds-cursors-level_count c =
    let low = level_within c.args.sizes.now c.args.trail.now.variables c.args.trail.now.steps c.args.trail.now.level_count c.args.cursors.now c.requires.cursors
    c.args.cursor c.requires.cursor c.level_count.ensures.steps in
    let same = c.level_count.ensures.level_count in omega arith

pub bounds-cursors-level_count-2 : goal.bounds-cursors-level_count-2
bounds-cursors-level_count-2 c =
    let few = steps_few c.decide.new.self.variables c.decide.new.self.steps c.decide.new.self.level_count c.level_count-2.ensures.steps in
    let same = c.level_count-2.ensures.level_count in
    let variables = ap (λ (t : TrailView). t.variables) c.decide.ensures.decided in
    let room = c.requires.cursors.room in
    let long = length-set c.args.cursors.now c.level_count.result c.args.cursor in
    omega (arith, few.0, few.1)

pub returns-clause-most : goal.returns-clause-most
returns-clause-most c = (steps_few c.decide.new.self.variables c.decide.new.self.steps c.decide.new.self.level_count c.level_count-2.ensures.steps).0

pub returns-clause-cursors : goal.returns-clause-cursors
returns-clause-cursors c =
    let few = steps_few c.decide.new.self.variables c.decide.new.self.steps c.decide.new.self.level_count c.level_count-2.ensures.steps in
    let variables = ap (λ (t : TrailView). t.variables) c.decide.ensures.decided in
    let level = ap (λ (t : TrailView). t.level_count) c.decide.ensures.decided in
    let next : c.level_count-2.result ≡ c.args.trail.now.level_count + 1 = c.level_count-2.ensures.level_count ∙ level in
    subst (λ (t : TrailView). AreCursors c.args.sizes.now t.variables t.steps t.level_count
    (set (set c.args.cursors.now c.level_count.result c.args.cursor) c.level_count-2.result c.args.cursor)) (sym c.decide.ensures.decided)
    (rw (c.level_count.ensures.level_count, next)
    (cursors_decided c.args.sizes.now c.args.trail.now.variables c.args.trail.now.steps c.args.trail.now.level_count c.args.cursors.now c.requires.cursors
    c.args.cursor c.requires.cursor c.level_count.ensures.steps _ (omega (arith, few.0, few.1))))

pub returns-clause-more : goal.returns-clause-more
returns-clause-more c = decided_longer c.args.trail.now c.decide.new.self c.args.lit c.decide.ensures.decided
