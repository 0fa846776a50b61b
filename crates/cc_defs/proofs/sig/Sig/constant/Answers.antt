use Rattle.std.proofs.Common.{◌∙◌, ◌-◌, ◌<◌, ℕ, ap, arith, slice_get, subst, sym}
use Rattle.cc_defs.specs.Signatures.{Signature, ground_constants}
use Rattle.cc_defs.proofs.Constants.{action_low, in_actions, in_fluents}
use Rattle.cc_defs.proofs.sig.Sig.constant.Goals as goal

pub index-requires-else-g-len : goal.index-requires-else-g-len
index-requires-else-g-len c =
    subst (λ (n : ℕ). c.args.g - c.len-else-g-len.result < n) (sym c.self.inside.actions.ok.0)
    (action_low _ c.args.self.now c.self.view_is c.len-else-g-len.result (c.len-else-g-len.ensures ∙ c.self.inside.fluents.ok.0) c.args.g (let high = c.if-g-len.false in let same = c.len.ensures in omega (arith, c.len-else-g-len.ensures)) c.requires)

pub returns-then-g-len : goal.returns-then-g-len
returns-then-g-len c =
    in_fluents c.self.inside.fluents.items c.self.inside.actions.items c.args.g c.index.result.now (subst (λ (n : ℕ). c.args.g < n) (c.len.ensures ∙ c.self.inside.fluents.ok.0) c.if-g-len.true) c.index.ensures
    ∙ ap (λ (v : Signature). slice_get (ground_constants v) c.args.g) c.self.view_is

pub returns-else-g-len : goal.returns-else-g-len
returns-else-g-len c =
    let count = c.len-else-g-len.ensures ∙ c.self.inside.fluents.ok.0 in
    let high = c.if-g-len.false in
    let same = c.len.ensures in
    in_actions c.self.inside.fluents.items c.self.inside.actions.items c.args.g (c.args.g - c.len-else-g-len.result) c.index-else-g-len.result.now (omega (arith, count, c.len-else-g-len.ensures))
    (action_low _ c.args.self.now c.self.view_is c.len-else-g-len.result count c.args.g (omega (arith, c.len-else-g-len.ensures)) c.requires) c.index-else-g-len.ensures
    ∙ ap (λ (v : Signature). slice_get (ground_constants v) c.args.g) c.self.view_is
