use Rattle.std.proofs.Common.{◌+◌, ◌∙◌, List, sym, ap, arith, length, length-append}
use Rattle.cc_trail.proofs.Growing.{grown_then, watched_grown, followed_grown}
use Rattle.cc_trail.specs.declared.entries.Step.{Step}
use Rattle.cc_trail.proofs.propagation.visit_steps.Goals as goal

pub visit_pairs-requires-clause-followed : goal.visit_pairs-requires-clause-followed
visit_pairs-requires-clause-followed c =
    let it = c.loop-visited.invariant.0 in
    followed_grown c.args.pairs.now c.loop-visited.visited c.loop-visited.entries c.visit_step.new.entries c.visit_step.ensures.grown it.watched.within it.followed

pub visit_pairs-requires-clause-variables : goal.visit_pairs-requires-clause-variables
visit_pairs-requires-clause-variables c = c.loop-visited.invariant.0.variables ∙ sym c.visit_step.ensures.grown.variables

pub visit_pairs-requires-clause-within : goal.visit_pairs-requires-clause-within
visit_pairs-requires-clause-within c =
    let more = ap (λ (steps : List Step). length steps) c.visit_step.ensures.grown.steps ∙ length-append c.loop-visited.entries.steps c.visit_step.ensures.grown.more in
    let count = c.count.ensures.count in
    let low = c.loop-visited-test.true in
    omega arith

pub loop-visited-preserved : goal.loop-visited-preserved
loop-visited-preserved c =
    let it = c.loop-visited.invariant.0 in
    let grown = grown_then c.loop-visited.entries c.visit_step.new.entries c.visit_pairs.new.entries c.visit_step.ensures.grown c.visit_pairs.ensures.grown in (
      record {
        variables = it.variables ∙ sym grown.variables;
        sound = c.visit_pairs.ensures.sound;
        watched = watched_grown c.args.kernel.now c.args.longs.now (c.loop-visited.visited + 1) c.visit_step.new.entries c.visit_pairs.new.entries c.visit_step.new.links
            c.visit_pairs.ensures.grown c.in_default.ensures.next;
        paired = it.paired;
        followed = c.in_default-visit_pairs.ensures.next;
        none = c.visit_step.ensures.none;
      },
      grown_then c.args.entries.now c.loop-visited.entries c.visit_pairs.new.entries (c.loop-visited.invariant.1) grown,
    )

pub returns-in-Some : goal.returns-in-Some
returns-in-Some c =
    let it = c.loop-visited.invariant.0 in
    record {
      propagating = record {
        variables = it.variables ∙ sym c.visit_step.ensures.grown.variables;
        sound = c.visit_step.ensures.sound;
        watched = c.visit_step.ensures.here;
        paired = it.paired;
        followed = followed_grown c.args.pairs.now c.loop-visited.visited c.loop-visited.entries c.visit_step.new.entries c.visit_step.ensures.grown it.watched.within it.followed;
        none = c.visit_step.ensures.none;
      };
      grown = grown_then c.args.entries.now c.loop-visited.entries c.visit_step.new.entries c.loop-visited.invariant.1 c.visit_step.ensures.grown;
      all = tt;
      failed = c.in-Some.ensures.failed;
    }

pub returns-in-Some-visit_pairs : goal.returns-in-Some-visit_pairs
returns-in-Some-visit_pairs c =
    let it = c.loop-visited.invariant.0 in
    let grown = grown_then c.loop-visited.entries c.visit_step.new.entries c.visit_pairs.new.entries c.visit_step.ensures.grown c.visit_pairs.ensures.grown in
    record {
      propagating = record {
        variables = it.variables ∙ sym grown.variables;
        sound = c.visit_pairs.ensures.sound;
        watched = watched_grown c.args.kernel.now c.args.longs.now c.loop-visited.visited c.visit_step.new.entries c.visit_pairs.new.entries c.visit_step.new.links
            c.visit_pairs.ensures.grown c.visit_step.ensures.here;
        paired = it.paired;
        followed = c.visit_pairs.ensures.here;
        none = c.visit_step.ensures.none;
      };
      grown = grown_then c.args.entries.now c.loop-visited.entries c.visit_pairs.new.entries c.loop-visited.invariant.1 grown;
      all = tt;
      failed = c.in-Some-visit_pairs.ensures.failed;
    }
