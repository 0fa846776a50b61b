use Rattle.std.proofs.Common.{Bor, Option, option_map}
use Rattle.cc_arena.specs.GroundViews.{plain_ground_query}
use Rattle.cc_defs.specs.declared.lists.Key.{Key}
use Rattle.cc_form.specs.Queries.{section_list}
use Rattle.cc_form.proofs.Finishing.{form_is, form_refused, form_within, key_fits_at, key_rows_at, tells_is, variables_refused}
use Rattle.cc_form.proofs.form.clauses.Goals as goal

pub returns-in_err-writer-clause-refused : goal.returns-in_err-writer-clause-refused
returns-in_err-writer-clause-refused c = λ d q of stands.
    let t = c.args.theory.now in
    let plain = plain_ground_query c.args.query.now in
    let w = c.args.with_claim in
    let key : Option Key = option_map (λ (k : Bor Key). k.now) c.args.after in
    variables_refused t plain w key c.in_err-writer.ensures.horizon c.in_err-writer.ensures.rules c.requires.query (key_fits_at t.signature t.horizon c.args.after c.requires.key) d q of stands
    c.from_residual.result c.in_err-writer.field-0.0 c.from_residual.ensures.1 c.in_err-writer.ensures.refused

pub returns-clause-list : goal.returns-clause-list
returns-clause-list c = λ d q of stands.
    let t = c.args.theory.now in
    let plain = plain_ground_query c.args.query.now in
    let w = c.args.with_claim in
    let key : Option Key = option_map (λ (k : Bor Key). k.now) c.args.after in
    let most = c.in_ok-writer.ensures.horizon in
    let fits = c.in_ok-writer.ensures.rules in
    let keys = key_fits_at t.signature t.horizon c.args.after c.requires.key in
    let writer = c.in_ok-writer.writer in
    let built = c.in_ok-writer.ensures.built in
    let section = section_list t plain w key in
    form_is t plain w key most fits c.requires.query keys d q of stands c.close.result writer built (c.close.ensures.form section.clauses built.holds)

pub returns-clause-refused : goal.returns-clause-refused
returns-clause-refused c = λ d q of stands.
    let t = c.args.theory.now in
    let plain = plain_ground_query c.args.query.now in
    let w = c.args.with_claim in
    let key : Option Key = option_map (λ (k : Bor Key). k.now) c.args.after in
    let most = c.in_ok-writer.ensures.horizon in
    let fits = c.in_ok-writer.ensures.rules in
    let keys = key_fits_at t.signature t.horizon c.args.after c.requires.key in
    let writer = c.in_ok-writer.writer in
    let built = c.in_ok-writer.ensures.built in
    let section = section_list t plain w key in
    form_refused t plain w key most fits c.requires.query keys d q of stands c.close.result built.within (c.close.ensures.refused section.clauses built.holds)

pub returns-clause-within : goal.returns-clause-within
returns-clause-within c = λ d q of stands.
    let t = c.args.theory.now in
    let plain = plain_ground_query c.args.query.now in
    let w = c.args.with_claim in
    let key : Option Key = option_map (λ (k : Bor Key). k.now) c.args.after in
    let most = c.in_ok-writer.ensures.horizon in
    let fits = c.in_ok-writer.ensures.rules in
    let keys = key_fits_at t.signature t.horizon c.args.after c.requires.key in
    let writer = c.in_ok-writer.writer in
    let built = c.in_ok-writer.ensures.built in
    let section = section_list t plain w key in
    form_within t plain w key most fits c.requires.query keys d q of stands c.close.result built.within (c.close.ensures.few section.clauses built.holds)

pub returns-clause-tells : goal.returns-clause-tells
returns-clause-tells c = λ d q of stands.
    let t = c.args.theory.now in
    let plain = plain_ground_query c.args.query.now in
    let w = c.args.with_claim in
    let key : Option Key = option_map (λ (k : Bor Key). k.now) c.args.after in
    let most = c.in_ok-writer.ensures.horizon in
    let fits = c.in_ok-writer.ensures.rules in
    let keys = key_fits_at t.signature t.horizon c.args.after c.requires.key in
    let writer = c.in_ok-writer.writer in
    let built = c.in_ok-writer.ensures.built in
    let section = section_list t plain w key in
    tells_is t plain w key most fits c.requires.query keys d q of stands c.close.result (option_map (λ (k : Bor Key). k.now.row) c.args.after)
    c.models_meet_completion.ensures c.models_are_paths.ensures c.terms_mean_formulas.ensures c.one_formula.ensures c.clauses_tell_rows.ensures (key_rows_at c.args.after)
    (form_is t plain w key most fits c.requires.query keys d q of stands c.close.result writer built (c.close.ensures.form section.clauses built.holds))
