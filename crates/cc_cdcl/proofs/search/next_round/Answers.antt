use Rattle.std.proofs.Common.{arith, ◌∙◌, List, ap, length, length-append}
use Rattle.cc_cdcl.specs.Searches.{IsSearching}
use Rattle.cc_cdcl.proofs.Descending.{searching_decided, searching_propagated}
use Rattle.cc_cdcl.proofs.Placing.{cursor_last}
use Rattle.cc_cdcl.proofs.Stepping.{steps_few}
use Rattle.cc_trail.specs.declared.entries.Step.{Step}
use Rattle.cc_trail.specs.Trails.{TrailView}
use Rattle.cc_cdcl.proofs.search.next_round.Goals as goal

pub returns-in-Some-clause-searching : goal.returns-in-Some-clause-searching
returns-in-Some-clause-searching c =
    searching_propagated c.args.sizes.now c.args.kernel.now c.args.trail.now c.propagate.new.self c.args.cursors.now c.requires.searching
    c.propagate.ensures.propagated c.propagate.ensures.fits c.propagate.ensures.settled

pub slice_copy_out-next_choice : goal.slice_copy_out-next_choice
slice_copy_out-next_choice c =
    let searching : IsSearching c.args.sizes.now c.args.kernel.now c.propagate.new.self c.args.cursors.now =
    searching_propagated c.args.sizes.now c.args.kernel.now c.args.trail.now c.propagate.new.self c.args.cursors.now c.requires.searching
    c.propagate.ensures.propagated c.propagate.ensures.fits c.propagate.ensures.settled in
    let few = steps_few c.propagate.new.self.variables c.propagate.new.self.steps c.propagate.new.self.level_count c.level_count-level.ensures.steps in
    let room = searching.cursors.room in let same = c.level_count-level.ensures.level_count in omega (arith, few.0, few.1)

pub next_choice-choice-requires-clause-cursor : goal.next_choice-choice-requires-clause-cursor
next_choice-choice-requires-clause-cursor c =
    let searching : IsSearching c.args.sizes.now c.args.kernel.now c.propagate.new.self c.args.cursors.now =
    searching_propagated c.args.sizes.now c.args.kernel.now c.args.trail.now c.propagate.new.self c.args.cursors.now c.requires.searching
    c.propagate.ensures.propagated c.propagate.ensures.fits c.propagate.ensures.settled in
    rw (c.level_count-level.ensures.level_count)
    (cursor_last c.args.sizes.now c.propagate.new.self.variables c.propagate.new.self.steps c.propagate.new.self.level_count c.args.cursors.now searching.cursors _)

pub decide-requires-clause-cursors : goal.decide-requires-clause-cursors
decide-requires-clause-cursors c =
    (searching_propagated c.args.sizes.now c.args.kernel.now c.args.trail.now c.propagate.new.self c.args.cursors.now c.requires.searching
    c.propagate.ensures.propagated c.propagate.ensures.fits c.propagate.ensures.settled).cursors

pub returns-in-Some-choice-clause-searching : goal.returns-in-Some-choice-clause-searching
returns-in-Some-choice-clause-searching c =
    searching_decided c.args.sizes.now c.args.kernel.now c.propagate.new.self c.decide.new.trail c.args.cursors.now c.decide.new.cursors c.in-Some-choice.lit
    (searching_propagated c.args.sizes.now c.args.kernel.now c.args.trail.now c.propagate.new.self c.args.cursors.now c.requires.searching
    c.propagate.ensures.propagated c.propagate.ensures.fits c.propagate.ensures.settled)
    c.decide.ensures.steps (rw c.in-Some-choice.is at c.next_choice-choice.ensures.some) c.decide.ensures.decided
    (c.decide.ensures.fits c.args.kernel.now c.propagate.ensures.fits)
    (c.decide.ensures.settled c.args.kernel.now c.in-None.ensures.closed c.propagate.ensures.settled) c.decide.ensures.cursors

pub returns-in-None-choice-clause-searching : goal.returns-in-None-choice-clause-searching
returns-in-None-choice-clause-searching c =
    searching_propagated c.args.sizes.now c.args.kernel.now c.args.trail.now c.propagate.new.self c.args.cursors.now c.requires.searching
    c.propagate.ensures.propagated c.propagate.ensures.fits c.propagate.ensures.settled

pub returns-in-Some-choice-clause-round : goal.returns-in-Some-choice-clause-round
returns-in-Some-choice-clause-round c =
    let propagated = c.propagate.ensures.propagated in
    let count = ap (λ (steps : List Step). length steps) propagated.steps ∙ length-append c.args.trail.now.steps propagated.more in
    let variables = ap (λ (v : TrailView). v.variables) c.decide.ensures.decided ∙ c.propagate.ensures.fits.variables in
    let more = c.decide.ensures.more in
    let most = c.decide.ensures.most in
    ((omega arith), (omega arith))

pub decide-requires-clause-choice : goal.decide-requires-clause-choice
decide-requires-clause-choice c = rw c.in-Some-choice.is at c.next_choice-choice.ensures.some
