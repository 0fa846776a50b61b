use Rattle.std.proofs.Common.{Bor, Option, refl, option_map}
use Rattle.cc_arena.specs.GroundViews.{plain_ground_query}
use Rattle.cc_defs.specs.declared.lists.Key.{Key}
use Rattle.cc_theory.specs.Making.{rules_for}
use Rattle.cc_theory.specs.Theories.{PlainTheory}
use Rattle.cc_form.specs.Places.{position_sizes}
use Rattle.cc_form.specs.Queries.{section_list}
use Rattle.cc_form.proofs.Finishing.{sizes_past}
use Rattle.cc_form.proofs.Running.{err_past}
use Rattle.cc_form.proofs.template.build.Goals as goal

pub returns-in_err-writer-clause-refused : goal.returns-in_err-writer-clause-refused
returns-in_err-writer-clause-refused c =
    let t : PlainTheory = record { signature = c.args.sig.now; horizon = c.args.horizon; rules = rules_for c.args.sig.now c.args.laws.now c.args.horizon } in
    let q = c.args.query.now in
    let plain = plain_ground_query q in
    let key : Option Key = option_map (λ (k : Bor Key). k.now) c.args.after in
    err_past c.from_residual.result (section_list t plain c.args.with_claim key).variables c.in_err-writer.field-0.0 c.from_residual.ensures.1
    (sizes_past t plain c.args.with_claim key _ c.args.horizon q.conditions q.claim refl refl refl refl (position_sizes t.signature t.horizon) c.in_err-writer.field-0.0 refl c.in_err-writer.ensures.refused)
