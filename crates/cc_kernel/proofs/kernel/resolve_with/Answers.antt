use Rattle.std.proofs.Common.{◌∙◌, ℕ, List, [], ◌∷◌, ◌++◌, ap, append_assoc}
use Rattle.cc_kernel.proofs.kernel.resolve_with.Goals as goal

pub returns-clause-chain : goal.returns-clause-chain
returns-clause-chain c =
    c.in_ok-push-2.ensures.items ∙ ap (λ (ns : List ℕ). ns ++ c.args.id ∷ [])
    (c.in_ok-push.ensures.items ∙ ap (λ (ns : List ℕ). ns ++ c.args.pivot ∷ []) c.reserve.ensures.items) ∙ append_assoc c.args.chain.now.items (c.args.pivot ∷ []) (c.args.id ∷ [])
