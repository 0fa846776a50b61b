use Rattle.std.proofs.Common.{inr, ◌+◌, ◌<◌, ◌∙◌, ℕ, ap, length, subst, sym}
use Rattle.cc_cdcl.proofs.Deriving.{adds, attached_back, back_low, back_mild, by_ok, clauses_then, count_then, fits_then, learns, on_err, on_ok, read_there, there_then}
use Rattle.cc_defs.specs.Clauses.{IsOver}
use Rattle.cc_trail.specs.Trails.{TrailView}
use Rattle.cc_cdcl.proofs.analysis.learn.Goals as goal

pub back_to-requires : goal.back_to-requires
back_to-requires c =
    back_low c.args.trail.now c.args.kernel.now c.derive.new.kernel c.finish.new.self c.level_count-level.ensures.steps c.requires.fits.variables c.derive.ensures.kept
    c.in_ok-derive.ensures.derived c.in_ok-number.ensures.added c.finish.ensures.reached c.requires.level c.clause.result.now (read_there c.args.trail.now c.args.kernel.now c.derive.new.kernel c.finish.new.self c.level_count-level.ensures.steps c.requires.fits.variables c.derive.ensures.kept
    c.in_ok-derive.ensures.derived c.in_ok-number.ensures.added c.finish.ensures.reached c.requires.level _ c.clause.result.now
    c.in_ok-number.ensures.number c.clause.ensures.clause)
    c.level_count-level.result c.highest_but-back.result c.level_count-level.ensures.level_count c.highest_but-back.ensures

pub attach_over-requires-clause-fits : goal.attach_over-requires-clause-fits
attach_over-requires-clause-fits c =
    fits_then c.args.trail.now c.args.kernel.now c.derive.new.kernel c.finish.new.self c.level_count-level.ensures.steps c.requires.fits.variables c.derive.ensures.kept
    c.in_ok-derive.ensures.derived c.in_ok-number.ensures.added c.finish.ensures.reached c.requires.level c.adding_keeps_fit.ensures c.back_to.new.self
    (c.back_to.ensures.fits c.args.kernel.now c.requires.fits)

pub returns-clause-learned : goal.returns-clause-learned
returns-clause-learned c =
    on_ok _ c.attach_over.result (learns c.learned_is_earned.ensures c.args.trail.now c.args.kernel.now c.derive.new.kernel c.finish.new.self c.level_count-level.ensures.steps c.requires.settled
    c.requires.level c.in_ok-derive.ensures.derived (adds c.args.trail.now c.args.kernel.now c.derive.new.kernel c.finish.new.self c.level_count-level.ensures.steps c.requires.fits.variables c.derive.ensures.kept
    c.in_ok-derive.ensures.derived c.in_ok-number.ensures.added c.finish.ensures.reached c.requires.level)
    c.clause.result.now (read_there c.args.trail.now c.args.kernel.now c.derive.new.kernel c.finish.new.self c.level_count-level.ensures.steps c.requires.fits.variables c.derive.ensures.kept
    c.in_ok-derive.ensures.derived c.in_ok-number.ensures.added c.finish.ensures.reached c.requires.level _ c.clause.result.now
    c.in_ok-number.ensures.number c.clause.ensures.clause) c.clause.ensures.is_clause c.clause.ensures.over)

pub returns-clause-back : goal.returns-clause-back
returns-clause-back c =
    by_ok _ _ _ _ c.attach_over.result c.attach_over.ensures.attached c.attach_over.ensures.fits c.attach_over.ensures.settled (λ attached fits settled. attached_back c.adding_keeps_settled.ensures c.args.trail.now c.back_to.new.self c.attach_over.new.self c.args.kernel.now c.finish.new.self
    c.in_ok-derive.ensures.derived.derivation.clause c.highest_but-back.result
    (back_low c.args.trail.now c.args.kernel.now c.derive.new.kernel c.finish.new.self c.level_count-level.ensures.steps c.requires.fits.variables c.derive.ensures.kept
    c.in_ok-derive.ensures.derived c.in_ok-number.ensures.added c.finish.ensures.reached c.requires.level c.clause.result.now (read_there c.args.trail.now c.args.kernel.now c.derive.new.kernel c.finish.new.self c.level_count-level.ensures.steps c.requires.fits.variables c.derive.ensures.kept
    c.in_ok-derive.ensures.derived c.in_ok-number.ensures.added c.finish.ensures.reached c.requires.level _ c.clause.result.now
    c.in_ok-number.ensures.number c.clause.ensures.clause)
    c.level_count-level.result c.highest_but-back.result c.level_count-level.ensures.level_count c.highest_but-back.ensures) c.back_to.ensures.back c.requires.all
    (count_then c.args.trail.now c.args.kernel.now c.derive.new.kernel c.finish.new.self c.level_count-level.ensures.steps c.requires.fits.variables c.derive.ensures.kept
    c.in_ok-derive.ensures.derived c.in_ok-number.ensures.added c.finish.ensures.reached c.requires.level)
    (clauses_then c.args.trail.now c.args.kernel.now c.derive.new.kernel c.finish.new.self c.level_count-level.ensures.steps c.requires.fits.variables c.derive.ensures.kept
    c.in_ok-derive.ensures.derived c.in_ok-number.ensures.added c.finish.ensures.reached c.requires.level)
    (back_mild c.args.trail.now c.args.kernel.now c.derive.new.kernel c.finish.new.self c.level_count-level.ensures.steps c.requires.fits.variables c.derive.ensures.kept
    c.in_ok-derive.ensures.derived c.in_ok-number.ensures.added c.finish.ensures.reached c.requires.level c.clause.result.now (read_there c.args.trail.now c.args.kernel.now c.derive.new.kernel c.finish.new.self c.level_count-level.ensures.steps c.requires.fits.variables c.derive.ensures.kept
    c.in_ok-derive.ensures.derived c.in_ok-number.ensures.added c.finish.ensures.reached c.requires.level _ c.clause.result.now
    c.in_ok-number.ensures.number c.clause.ensures.clause)
    c.level_count-level.result c.highest_but-back.result c.level_count-level.ensures.level_count c.highest_but-back.ensures c.learned_is_earned.ensures c.requires.settled)
    (c.back_to.ensures.settled c.args.kernel.now c.requires.settled) attached fits settled)

pub returns-clause-broken : goal.returns-clause-broken
returns-clause-broken c =
    on_err _ c.attach_over.result (inr (learns c.learned_is_earned.ensures c.args.trail.now c.args.kernel.now c.derive.new.kernel c.finish.new.self c.level_count-level.ensures.steps c.requires.settled
    c.requires.level c.in_ok-derive.ensures.derived (adds c.args.trail.now c.args.kernel.now c.derive.new.kernel c.finish.new.self c.level_count-level.ensures.steps c.requires.fits.variables c.derive.ensures.kept
    c.in_ok-derive.ensures.derived c.in_ok-number.ensures.added c.finish.ensures.reached c.requires.level)
    c.clause.result.now (read_there c.args.trail.now c.args.kernel.now c.derive.new.kernel c.finish.new.self c.level_count-level.ensures.steps c.requires.fits.variables c.derive.ensures.kept
    c.in_ok-derive.ensures.derived c.in_ok-number.ensures.added c.finish.ensures.reached c.requires.level _ c.clause.result.now
    c.in_ok-number.ensures.number c.clause.ensures.clause) c.clause.ensures.is_clause c.clause.ensures.over))

pub clause-requires : goal.clause-requires
clause-requires c =
    there_then c.args.trail.now c.args.kernel.now c.derive.new.kernel c.finish.new.self c.level_count-level.ensures.steps c.requires.fits.variables c.derive.ensures.kept
    c.in_ok-derive.ensures.derived c.in_ok-number.ensures.added c.finish.ensures.reached c.requires.level c.in_ok-number.number c.in_ok-number.ensures.number

pub clause-requires-2 : goal.clause-requires-2
clause-requires-2 c =
    there_then c.args.trail.now c.args.kernel.now c.derive.new.kernel c.finish.new.self c.level_count-level.ensures.steps c.requires.fits.variables c.derive.ensures.kept
    c.in_ok-derive.ensures.derived c.in_ok-number.ensures.added c.finish.ensures.reached c.requires.level c.in_ok-number.number c.in_ok-number.ensures.number

pub attach_over-requires-clause-there : goal.attach_over-requires-clause-there
attach_over-requires-clause-there c =
    there_then c.args.trail.now c.args.kernel.now c.derive.new.kernel c.finish.new.self c.level_count-level.ensures.steps c.requires.fits.variables c.derive.ensures.kept
    c.in_ok-derive.ensures.derived c.in_ok-number.ensures.added c.finish.ensures.reached c.requires.level c.in_ok-number.number c.in_ok-number.ensures.number

pub attach_over-requires-clause-next : goal.attach_over-requires-clause-next
attach_over-requires-clause-next c =
    c.in_ok-number.ensures.number ∙ ap (λ (n : ℕ). n + 1) (ap length c.derive.ensures.kept.entries ∙ sym c.requires.all ∙ ap (λ (v : TrailView). v.attached) (sym c.back_to.ensures.back))

pub highest_but-back-requires : goal.highest_but-back-requires
highest_but-back-requires c =
    subst (λ (n : ℕ). IsOver n c.clause.result.now) ((adds c.args.trail.now c.args.kernel.now c.derive.new.kernel c.finish.new.self c.level_count-level.ensures.steps c.requires.fits.variables c.derive.ensures.kept
    c.in_ok-derive.ensures.derived c.in_ok-number.ensures.added c.finish.ensures.reached c.requires.level).variables ∙ sym c.requires.fits.variables) c.clause.ensures.over

pub returns-clause-phase : goal.returns-clause-phase
returns-clause-phase c = c.take_back.ensures ∙ c.weigh.ensures ∙ c.derive.ensures.phase

pub finish-requires-clause-few : goal.finish-requires-clause-few
finish-requires-clause-few c = subst (λ (n : ℕ). n < 4000000000) (sym (ap length c.derive.ensures.kept.entries)) c.requires.few
