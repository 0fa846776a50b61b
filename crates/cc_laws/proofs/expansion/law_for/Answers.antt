use Rattle.std.proofs.Common.{◌∙◌, ap}
use Rattle.cc_defs.specs.Resolved.{plain_base_law, plain_head}
use Rattle.cc_laws.specs.Expansion.{Frame, law_for}
use Rattle.cc_laws.specs.Views.{frame_of, plain_caused}
use Rattle.cc_laws.specs.Vocabulary.{vocabulary_of}
use Rattle.cc_laws.proofs.HeadLaws.{denied_by, made_for}
use Rattle.cc_laws.proofs.expansion.law_for.Goals as goal

pub returns : goal.returns
returns c =
    let v = vocabulary_of c.args.table.now in
    let law = plain_caused c.args.law.now c.args.later in
    let head = plain_head c.args.head in
    made_for v (frame_of c.in_ok-frame.frame) head c.denies_step-denied.result _ _ _ _ _ _ _ (plain_base_law c.base_law.result)
    (denied_by v law head c.args.denying c.denies_step-denied.result c.requires c.denies_step-denied.ensures)
    c.in_ok-parts.ensures.body c.in_ok-parts.ensures.after c.base_law.ensures
    ∙ ap (λ (frame : Frame). law_for v frame law head) c.in_ok-frame.ensures
