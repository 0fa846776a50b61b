use Rattle.std.proofs.Common.{◌∙◌, ℕ, List, length, sym, subst, ◌*◌, ap, length-append, arith, refl}
use Rattle.cc_kernel.specs.Kernels.{clauses_of}
use Rattle.cc_defs.specs.Clauses.{IsIn}
use Rattle.cc_trail.specs.Visits.{IsPropagating}
use Rattle.cc_trail.proofs.Growing.{grown_then}
use Rattle.cc_trail.proofs.Walking.{met_grown}
use Rattle.cc_trail.proofs.Propagated.{known_here, propagating_here, still_good, good_then, fits_then, all_closed}
use Rattle.cc_trail.specs.declared.entries.Step.{Step}
use Rattle.cc_trail.proofs.trail.Trail.propagate.Goals as goal

pub make_shorts-requires-clause-known : goal.make_shorts-requires-clause-known
make_shorts-requires-clause-known c =
    rw c.deref.ensures.value (known_here c.self.inside c.args.self.now c.self.view_is c.self.invariant c.args.kernel.now c.requires.fits)

pub returns-in-Some-clause-fits : goal.returns-in-Some-clause-fits
returns-in-Some-clause-fits c =
    fits_then c.self.inside c.args.self.now c.self.view_is c.self.invariant c.args.kernel.now c.requires.fits c.self.inside.visited c.self.inside.met c.make_shorts.new.entries
    c.self.inside.links
    (propagating_here c.self.inside c.args.self.now c.self.view_is c.self.invariant c.args.kernel.now c.requires.fits c.make_shorts.new.entries c.make_shorts.ensures.grown c.make_shorts.ensures.sound)
    (still_good c.self.inside c.args.self.now c.self.view_is c.self.invariant c.args.kernel.now c.requires.fits c.make_shorts.new.entries c.make_shorts.ensures.grown)

pub visit_steps-requires : goal.visit_steps-requires
visit_steps-requires c =
    rw c.deref-2.ensures.value
    (propagating_here c.self.inside c.args.self.now c.self.view_is c.self.invariant c.args.kernel.now c.requires.fits c.make_shorts.new.entries c.make_shorts.ensures.grown c.make_shorts.ensures.sound)

pub returns-clause-fits : goal.returns-clause-fits
returns-clause-fits c =
    fits_then c.self.inside c.args.self.now c.self.view_is c.self.invariant c.args.kernel.now c.requires.fits c.visit_steps.new.visited c.met_for_good-self-inside.result
    c.visit_steps.new.entries c.visit_steps.new.links (subst (λ (ns : List ℕ). IsPropagating c.args.kernel.now ns c.self.inside.pairs c.visit_steps.new.visited c.visit_steps.new.entries c.visit_steps.new.links) c.deref-2.ensures.value c.visit_steps.ensures.propagating)
    (good_then c.self.inside c.args.self.now c.self.view_is c.self.invariant c.args.kernel.now c.requires.fits c.met_for_good-self-inside.result c.len.result c.make_shorts.new.entries
    c.visit_steps.new.entries c.met_for_good-self-inside.ensures (c.len.ensures ∙ c.self.inside.shorts.ok.0) c.make_shorts.ensures.grown c.visit_steps.ensures.grown c.make_shorts.ensures.sound
    (rw (← c.deref.ensures.value) c.in_default.ensures.met))

pub returns-clause-closed : goal.returns-clause-closed
returns-clause-closed c =
    all_closed c.self.inside c.args.self.now c.self.view_is c.self.invariant c.args.kernel.now c.requires.fits c.visit_steps.result c.visit_steps.new.visited
    c.visit_steps.new.entries c.visit_steps.new.links c.requires.all (subst (λ (ns : List ℕ). IsPropagating c.args.kernel.now ns c.self.inside.pairs c.visit_steps.new.visited c.visit_steps.new.entries c.visit_steps.new.links) c.deref-2.ensures.value c.visit_steps.ensures.propagating)
    (λ number here. met_grown (clauses_of c.args.kernel.now) c.make_shorts.new.entries c.visit_steps.new.entries number c.visit_steps.ensures.grown
    (c.in_default.ensures.met number (subst (λ (ns : List ℕ). IsIn ns number) (sym c.deref.ensures.value) here)))
    c.visit_steps.ensures.all

pub invariant_of-self : goal.invariant_of-self
invariant_of-self c =
    let grown = c.make_shorts.ensures.grown in
    let more = ap (λ (steps : List Step). length steps) grown.steps ∙ length-append c.self.inside.entries.steps grown.more in
    record {
      trail_is = record {
        are_steps = c.make_shorts.ensures.sound.are_steps;
        visited = let before = c.self.invariant.trail_is.visited in omega arith;
        nodes = c.self.invariant.trail_is.nodes;
      };
      variables = c.self.invariant.variables ∙ sym grown.variables;
      pairs_variables = c.self.invariant.pairs_variables ∙ sym grown.variables;
      ahead = c.self.invariant.ahead;
    }

pub invariant_of-self-2 : goal.invariant_of-self-2
invariant_of-self-2 c =
    let watched = c.visit_steps.ensures.propagating.watched in
    record {
      trail_is = record {
        are_steps = c.visit_steps.ensures.propagating.sound.are_steps;
        visited = watched.within;
        nodes = watched.nodes ∙ ap (λ (ns : List ℕ). 2 * length ns) c.deref-2.ensures.value;
      };
      variables = watched.variables ∙ sym c.visit_steps.ensures.propagating.sound.variables;
      pairs_variables = c.self.invariant.pairs_variables ∙ sym (c.visit_steps.ensures.grown.variables ∙ c.make_shorts.ensures.grown.variables);
      ahead = c.visit_steps.ensures.propagating.none;
    }

pub returns-clause-propagated : goal.returns-clause-propagated
returns-clause-propagated c =
    let grown = grown_then c.self.inside.entries c.make_shorts.new.entries c.visit_steps.new.entries c.make_shorts.ensures.grown c.visit_steps.ensures.grown in
    rw (← c.self.view_is) (record { more = grown.more; steps = grown.steps; each = grown.each; variables = grown.variables; level_count = grown.level_count; attached = refl })

pub returns-clause-settled : goal.returns-clause-settled
returns-clause-settled c = c.visit_steps.ensures.propagating.sound.settled

pub returns-in-Some-clause-propagated : goal.returns-in-Some-clause-propagated
returns-in-Some-clause-propagated c =
    let grown = c.make_shorts.ensures.grown in
    rw (← c.self.view_is) (record { more = grown.more; steps = grown.steps; each = grown.each; variables = grown.variables; level_count = grown.level_count; attached = refl })

pub returns-in-Some-clause-settled : goal.returns-in-Some-clause-settled
returns-in-Some-clause-settled c = c.make_shorts.ensures.sound.settled
