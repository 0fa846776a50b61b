use Rattle.std.proofs.Common.{◌∙◌, ap, sym}
use Rattle.cc_defs.specs.Resolved.{One}
use Rattle.cc_wide.specs.declared.law.WideBase.{WideBase}
use Rattle.cc_wide.specs.WideLaws.{plain_wide_base, plain_wide_law}
use Rattle.cc_wide_ground.specs.Shares.{base_by}
use Rattle.cc_wide_ground.proofs.Shared.{none_by, one_by}
use Rattle.cc_wide_ground.proofs.bases.base_of_share.Goals as goal

pub returns-in-NoConcurrency : goal.returns-in-NoConcurrency
returns-in-NoConcurrency c =
    none_by c.args.share c.in-NoConcurrency.file c.in-NoConcurrency.line ∙ sym (ap (λ (law : WideBase). base_by c.args.share (plain_wide_base law)) c.in-NoConcurrency.is)

pub returns-in_ok-law_of_share-in-One : goal.returns-in_ok-law_of_share-in-One
returns-in_ok-law_of_share-in-One c =
    ap One c.in_ok-law_of_share-in-One.ensures ∙ one_by c.args.share (plain_wide_law c.in-One.law) ∙ sym (ap (λ (law : WideBase). base_by c.args.share (plain_wide_base law)) c.in-One.is)
