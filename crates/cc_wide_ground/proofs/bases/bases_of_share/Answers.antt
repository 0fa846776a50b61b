use Rattle.std.proofs.Common.{◌∙◌, ◌++◌, List, ap, map, refl}
use Rattle.cc_defs.specs.declared.law.BaseLaw.{BaseLaw as Kept}
use Rattle.cc_defs.specs.Resolved.{BaseLaw, plain_base_law}
use Rattle.cc_wide.specs.declared.law.WideBase.{WideBase}
use Rattle.cc_wide.specs.WideLaws.{plain_wide_base}
use Rattle.cc_wide_ground.specs.Shares.{base_by}
use Rattle.cc_wide_ground.proofs.Copied.{copied_all, copied_more}
use Rattle.cc_wide_ground.proofs.bases.bases_of_share.Goals as goal

pub loop-law-init : goal.loop-law-init
loop-law-init c = ap (λ (l : List Kept). map plain_base_law l ++ map (base_by c.args.share) (map plain_wide_base c.args.laws.now)) c.in_ok-made.ensures.items

pub loop-law-preserved : goal.loop-law-preserved
loop-law-preserved c =
    let left : List WideBase → List BaseLaw = λ laws. map (base_by c.args.share) (map plain_wide_base laws) in
    copied_more plain_base_law left (λ law. base_by c.args.share (plain_wide_base law)) (λ z zs. refl) c.args.laws.now c.loop-law.law-index c.law-item.result c.loop-law.made.items c.push.new.self.items _ _
    c.loop-law-test.true c.law-item.is c.in_ok-base_of_share.ensures c.in_ok-push.ensures.items c.loop-law.invariant

pub returns : goal.returns
returns c =
    let left : List WideBase → List BaseLaw = λ laws. map (base_by c.args.share) (map plain_wide_base laws) in
    ap (map plain_base_law) c.of.ensures ∙ copied_all plain_base_law left c.args.laws.now c.loop-law.law-index c.loop-law.made.items _ refl c.loop-law-test.false c.loop-law.invariant
