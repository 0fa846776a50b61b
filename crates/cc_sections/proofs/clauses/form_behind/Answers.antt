use Rattle.std.proofs.Common.{refl}
use Rattle.cc_arena.specs.GroundViews.{plain_ground_query}
use Rattle.cc_lists.specs.Horizons.{Fits}
use Rattle.cc_sections.proofs.Items.{asked_of}
use Rattle.cc_sections.proofs.clauses.form_behind.Goals as goal

pub clauses-requires-clause-query : goal.clauses-requires-clause-query
clauses-requires-clause-query c =
    let fit : Fits c.args.sig.now (plain_ground_query c.args.query.now) c.args.key.now = c.if-not-fits.ensures.fits.0 refl in
    asked_of c.args.sig.now c.in_ok-theory.theory.signature c.args.key.now.horizon c.in_ok-theory.theory.horizon (plain_ground_query c.args.query.now)
    c.in_ok-theory.ensures.signature c.in_ok-theory.ensures.horizon
    (c.requires.steps c.args.key.now.horizon fit.least fit.most)

pub from_template-requires-clause-query : goal.from_template-requires-clause-query
from_template-requires-clause-query c =
    let fit : Fits c.args.sig.now (plain_ground_query c.args.query.now) c.args.key.now = c.if-not-fits.ensures.fits.0 refl in
    c.requires.steps c.args.key.now.horizon fit.least fit.most
