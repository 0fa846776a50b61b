use Rattle.std.proofs.Common.{Bor, ◌≡◌, ◌∙◌, Option, refl, ap, option_map}
use Rattle.cc_arena.specs.GroundViews.{plain_ground_query}
use Rattle.cc_defs.specs.declared.lists.Key.{Key}
use Rattle.cc_defs.specs.Signatures.{Signature}
use Rattle.cc_form.specs.Places.{position_sizes}
use Rattle.cc_form.specs.Queries.{section_list}
use Rattle.cc_form.proofs.Finishing.{sizes_past}
use Rattle.cc_form.proofs.Running.{err_past}
use Rattle.cc_form.proofs.form.build.Goals as goal

pub returns-in_err-writer-clause-refused : goal.returns-in_err-writer-clause-refused
returns-in_err-writer-clause-refused c =
    let t = c.args.theory.now in
    let q = c.args.query.now in
    let plain = plain_ground_query q in
    let key : Option Key = option_map (λ (k : Bor Key). k.now) c.args.after in
    let H = c.horizon.result in
    let sizes : position_sizes c.sig.result.now H ≡ position_sizes t.signature t.horizon = ap (λ (s : Signature). position_sizes s H) c.sig.ensures ∙ ap (position_sizes t.signature) c.horizon.ensures.value in
    err_past c.from_residual.result (section_list t plain c.args.with_claim key).variables c.in_err-writer.field-0.0 c.from_residual.ensures.1
    (sizes_past t plain c.args.with_claim key _ H q.conditions q.claim refl c.horizon.ensures.value refl refl (position_sizes c.sig.result.now H) c.in_err-writer.field-0.0 sizes c.in_err-writer.ensures.refused)
