use Rattle.std.proofs.Common.{◌∙◌, ◌%◌, ℕ, ap, arith, length, option_map, slice_get, Some, sym}
use Rattle.cc_defs.specs.Signatures.{ground_constants}
use Rattle.cc_defs.specs.declared.signature.Const.{Const}
use Rattle.cc_defs.proofs.Constants.{counted, rest_low, domain_short, rest_few}
use Rattle.cc_defs.proofs.sig.Sig.domain_size.Goals as goal

pub nonzero_rem-position : goal.nonzero_rem-position
nonzero_rem-position c = let count = counted _ c.args.self.now c.self.view_is c.len.result (c.len.ensures ∙ c.self.inside.fluents.ok.0) c.len-2.result (c.len-2.ensures ∙ c.self.inside.actions.ok.0) in let some = c.requires in omega arith

pub constant-constant-requires : goal.constant-constant-requires
constant-constant-requires c = rest_low c.args.position _ _ (counted _ c.args.self.now c.self.view_is c.len.result (c.len.ensures ∙ c.self.inside.fluents.ok.0) c.len-2.result (c.len-2.ensures ∙ c.self.inside.actions.ok.0)) c.requires

pub returns : goal.returns
returns c =
    let constants = ground_constants c.args.self.now in
    ap (λ (n : ℕ). option_map (λ (constant : Const). length constant.domain) (slice_get constants (c.args.position % n))) (sym (counted _ c.args.self.now c.self.view_is c.len.result (c.len.ensures ∙ c.self.inside.fluents.ok.0) c.len-2.result (c.len-2.ensures ∙ c.self.inside.actions.ok.0)))
    ∙ ap (option_map (λ (constant : Const). length constant.domain)) (sym c.constant-constant.ensures) ∙ ap (λ ns. Some (length ns)) (sym c.items.ensures)

pub overflow_cast-result : goal.overflow_cast-result
overflow_cast-result c =
    let low = domain_short _ c.args.self.now c.self.view_is c.self.invariant.0 _ c.constant-constant.result.now c.constant-constant.ensures in
    let same = ap (λ ns. length ns) c.items.ensures in omega arith

pub overflow_cast-position : goal.overflow_cast-position
overflow_cast-position c =
    let count = counted _ c.args.self.now c.self.view_is c.len.result (c.len.ensures ∙ c.self.inside.fluents.ok.0) c.len-2.result (c.len-2.ensures ∙ c.self.inside.actions.ok.0) in
    let some = c.requires in
    let low = rest_few c.args.position c.len.result c.len-2.result _ c.self.invariant.0 (c.len.ensures ∙ c.self.inside.fluents.ok.0) (c.len-2.ensures ∙ c.self.inside.actions.ok.0) (omega arith) in omega arith
