use Rattle.std.proofs.Common.{map}
use Rattle.std.proofs.lemmas.Result.{IfErr-weaker}
use Rattle.cc_arena.specs.GroundViews.{plain_ground_query}
use Rattle.cc_defs.specs.Resolved.{plain_query}
use Rattle.cc_words.specs.Views.{plain_text}
use Rattle.cc_run.proofs.Exported.{exported_ok, fault_form, fault_laws, fault_query, handed_on}
use Rattle.cc_run.proofs.modes.export.exported_form.Goals as goal

pub returns-in_err-laws-clause-refused : goal.returns-in_err-laws-clause-refused
returns-in_err-laws-clause-refused c = λ d of.
    handed_on _ c.in_err-laws.field-0.0 c.from_residual.result c.from_residual.ensures.1
    (fault_laws d (map plain_query c.args.described.now.queries) (plain_text c.args.asked.now.query) c.args.asked.now.horizon c.in_err-laws.field-0.0
    (c.in_err-laws.ensures.refused d of))

pub returns-in_err-query-clause-refused : goal.returns-in_err-query-clause-refused
returns-in_err-query-clause-refused c = λ d of.
    handed_on _ c.in_err-query.field-0.0 c.from_residual-in_err-query.result c.from_residual-in_err-query.ensures.1
    (fault_query d (map plain_query c.args.described.now.queries) (plain_text c.args.asked.now.query) c.args.asked.now.horizon c.in_err-query.field-0.0
    (c.in_ok-laws.ensures.unrefused d of) (c.in_err-query.ensures.refused d of))

pub returns-clause-exported : goal.returns-clause-exported
returns-clause-exported c = λ d of.
    let laws = c.in_ok-laws.ensures.of d of in
    let asked = c.in_ok-query.ensures.named d of in
    exported_ok d (map plain_query c.args.described.now.queries) (plain_text c.args.asked.now.query) c.args.asked.now.horizon (plain_ground_query c.in_ok-query.query)
    (c.in_ok-laws.ensures.unrefused d of) asked c.form_at.result (c.form_at.ensures.made d asked.query laws asked.stands)
    (c.form_at.ensures.tells d asked.query laws asked.stands) (c.form_at.ensures.within d asked.query laws asked.stands)

pub returns-clause-refused : goal.returns-clause-refused
returns-clause-refused c = λ d of.
    let asked = c.in_ok-query.ensures.named d of in
    IfErr-weaker c.form_at.result _ _
    (fault_form d (map plain_query c.args.described.now.queries) (plain_text c.args.asked.now.query) c.args.asked.now.horizon (plain_ground_query c.in_ok-query.query)
    (c.in_ok-laws.ensures.unrefused d of) asked)
    (c.form_at.ensures.refused d asked.query (c.in_ok-laws.ensures.of d of) asked.stands)

pub form_at-requires-clause-laws : goal.form_at-requires-clause-laws
form_at-requires-clause-laws c = c.in_ok-laws.ensures.fit
