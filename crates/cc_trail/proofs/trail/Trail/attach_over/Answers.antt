use Rattle.std.proofs.Common.{◌∙◌, ℕ, ◌+◌, sym, ap}
use Rattle.std.proofs.lemmas.List.Elements.{All-contains}
use Rattle.cc_defs.specs.Clauses.{Literal, IsLiteralOver}
use Rattle.cc_trail.proofs.Attaching.{on_ok, all_over}
use Rattle.cc_trail.proofs.AttachingTrue.{open_apart, fits_true, settled_true}
use Rattle.cc_trail.proofs.trail.Trail.attach_over.Goals as goal

pub left_by-requires : goal.left_by-requires
left_by-requires c = rw c.drop_covered.ensures.fits.variables (all_over c.args.kernel.now.variables c.clause.result.now c.clause.ensures.over)

pub attach_true-requires-clause-first : goal.attach_true-requires-clause-first
attach_true-requires-clause-first c =
    rw c.drop_covered.ensures.fits.variables (All-contains (λ (l : Literal). IsLiteralOver c.args.kernel.now.variables l) c.clause.result.now c.in-Some.pair.first
    (all_over c.args.kernel.now.variables c.clause.result.now c.clause.ensures.over) c.in-Some.ensures.first_in)

pub attach_true-requires-clause-second : goal.attach_true-requires-clause-second
attach_true-requires-clause-second c =
    rw c.drop_covered.ensures.fits.variables (All-contains (λ (l : Literal). IsLiteralOver c.args.kernel.now.variables l) c.clause.result.now c.in-Some.pair.second
    (all_over c.args.kernel.now.variables c.clause.result.now c.clause.ensures.over) c.in-Some.ensures.second_in)

pub attach_true-requires-clause-apart : goal.attach_true-requires-clause-apart
attach_true-requires-clause-apart c e =
    open_apart c.drop_covered.new.self.steps c.in-Some.pair.first c.in-Some.pair.second c.drop_covered.new.self.level_count c.in-Some.ensures.open_yet c.in-Some.ensures.fallen (sym e)

pub returns-in-Some-clause-fits : goal.returns-in-Some-clause-fits
returns-in-Some-clause-fits c =
    on_ok c.attach_true.result
    (λ long. fits_true c.drop_covered.new.self c.attach_true.new.self c.args.id c.in-Some.pair.first c.in-Some.pair.second long c.args.kernel.now c.drop_covered.ensures.fits
    c.attach_true.ensures.trail (c.requires.next ∙ ap (λ (n : ℕ). n + 1) (sym c.drop_covered.ensures.dropped.attached)) c.requires.there c.clause.result.now c.clause.ensures.clause
    c.in-Some.ensures) c.attach_true.ensures.attached

pub returns-in-Some-clause-settled : goal.returns-in-Some-clause-settled
returns-in-Some-clause-settled c =
    on_ok c.attach_true.result
    (λ long other settled. settled_true c.drop_covered.new.self c.attach_true.new.self c.args.id c.in-Some.pair.first c.in-Some.pair.second long other
    (c.drop_covered.ensures.settled other settled)) c.attach_true.ensures.attached
