use Rattle.std.proofs.Common.{length}
use Rattle.cc_trail.proofs.StepLists.{none_of, in_take}
use Rattle.cc_trail.proofs.EntryViews.{place_here, step_here, no_end_here, not_found_here}
use Rattle.cc_trail.proofs.entries.Entries.place.Goals as goal

pub returns-in-Some-clause-within : goal.returns-in-Some-clause-within
returns-in-Some-clause-within c =
    (place_here c.self.inside c.args.self.now c.self.view_is c.self.invariant.kept c.args.variable c.index.result.now c.requires c.index.ensures c.in-Some.place c.in-Some.ensures).2

pub returns-in-Some-clause-before : goal.returns-in-Some-clause-before
returns-in-Some-clause-before c =
    (place_here c.self.inside c.args.self.now c.self.view_is c.self.invariant.kept c.args.variable c.index.result.now c.requires c.index.ensures c.in-Some.place c.in-Some.ensures).1

pub returns-in-None-clause-before : goal.returns-in-None-clause-before
returns-in-None-clause-before c = λ step here.
    none_of c.args.self.now.steps c.args.variable
    (not_found_here c.self.inside c.args.self.now c.self.view_is c.self.invariant.kept c.args.variable c.index.result.now c.requires c.index.ensures c.in-None.ensures)
    step (in_take c.self.inside.count c.args.self.now.steps step here)

pub returns-in-Some-clause-some : goal.returns-in-Some-clause-some
returns-in-Some-clause-some c =
    step_here c.self.inside c.args.self.now c.self.view_is c.self.invariant.kept c.args.variable c.index.result.now c.requires c.index.ensures c.in-Some.place c.in-Some.ensures

pub returns-in-Some-clause-none : goal.returns-in-Some-clause-none
returns-in-Some-clause-none c =
    no_end_here c.self.inside c.args.self.now c.self.view_is c.self.invariant.kept c.args.variable c.index.result.now c.requires c.index.ensures c.in-Some.place
    (length c.args.self.now.steps) c.in-Some.ensures

pub returns-in-None-clause-some : goal.returns-in-None-clause-some
returns-in-None-clause-some c =
    rw (not_found_here c.self.inside c.args.self.now c.self.view_is c.self.invariant.kept c.args.variable c.index.result.now c.requires c.index.ensures c.in-None.ensures) tt
