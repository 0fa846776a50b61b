use Rattle.std.proofs.Common.{◌∙◌, Some, ap}
use Rattle.cc_defs.specs.Resolved.{Formula, plain_formula}
use Rattle.cc_defs.specs.Resolved as resolved
use Rattle.cc_laws.specs.Expansion.{Frame, base_law, shape_frame}
use Rattle.cc_laws.specs.Vocabulary.{vocabulary_of}
use Rattle.cc_laws.proofs.expansion.attribute_law.Goals as goal

pub returns : goal.returns
returns c =
    let v = vocabulary_of c.args.table.now in
    let frame = shape_frame c.args.file c.args.line c.args.sorts.now in
    c.base_law.ensures
    ∙ ap (λ (w : Frame). base_law v w resolved.Falsity resolved.Truth (Some (plain_formula c.in_ok-differ.differ))) c.in_ok-frame.ensures
    ∙ ap (λ (w : Formula). base_law v frame resolved.Falsity resolved.Truth (Some w)) c.in_ok-differ.ensures
