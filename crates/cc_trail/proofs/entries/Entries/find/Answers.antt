use Rattle.std.proofs.Common.{◌∙◌, ◌<◌, ℕ, Some, sym, subst, ap}
use Rattle.cc_trail.specs.declared.entries.Step.{Step}
use Rattle.cc_trail.proofs.EntryViews.{found_here, place_here, not_found_here}
use Rattle.cc_trail.proofs.entries.Entries.find.Goals as goal

pub index-requires-in-Some : goal.index-requires-in-Some
index-requires-in-Some c =
    subst (λ (n : ℕ). c.in-Some.place < n) (sym c.self.inside.steps.ok.0)
    (place_here c.self.inside c.args.self.now c.self.view_is c.self.invariant.kept c.args.variable c.index.result.now c.requires c.index.ensures c.in-Some.place c.in-Some.ensures).0

pub returns-in-Some-clause-found : goal.returns-in-Some-clause-found
returns-in-Some-clause-found c =
    ap (λ (s : Step). Some s) c.index-in-Some.ensures ∙
    sym (found_here c.self.inside c.args.self.now c.self.view_is c.self.invariant.kept c.args.variable c.index.result.now c.requires c.index.ensures c.in-Some.place
    c.index-in-Some.result.now c.in-Some.ensures).2

pub returns-in-None-clause-found : goal.returns-in-None-clause-found
returns-in-None-clause-found c =
    sym (not_found_here c.self.inside c.args.self.now c.self.view_is c.self.invariant.kept c.args.variable c.index.result.now c.requires c.index.ensures c.in-None.ensures)
