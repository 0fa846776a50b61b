use Rattle.std.proofs.Common.{List, refl, [], ◌∷◌, ◌++◌, ◌≡◌, sym, subst, ap, ◌∙◌}
use Rattle.std.specs.List.{AllByRecursion}
use Rattle.cc_defs.specs.declared.node.Node.{Node}
use Rattle.cc_defs.specs.declared.node.Node.TheVariants as nodes
use Rattle.cc_defs.specs.Terms.{Ground, Truth, Not, All, IsTerm, NamesBelow, nothing, and_then, postfix}
use Rattle.cc_tests_clauses.proofs.Each.{all_append}
use Rattle.cc_tests_clauses.proofs.arena.nested.Goals as goal
use Rattle.cc_tests_clauses.proofs.arena.nested.Goals.{then-negated+in_ok-push, else-negated+in_ok-push-2}

-- one more node behind a term, which names no constant
more : (old new : List Node) (node : Node) (term : Ground) (is : IsTerm 0 old) → NamesBelow 0 node → postfix term ≡ postfix is.formula ++ node ∷ [] → new ≡ old ++ node ∷ [] → IsTerm 0 new
more old new node term is names written pushed = record {
  formula = term;
  written = pushed ∙ ap (λ (front : List Node). front ++ node ∷ []) is.written ∙ sym written;
  names = subst (AllByRecursion (NamesBelow 0)) (sym pushed) (all_append (NamesBelow 0) old (node ∷ []) is.names (names, tt));
}

pub loop-level-init : goal.loop-level-init
loop-level-init c = record { formula = Truth; written = c.in_ok-nodes.ensures.items; names = subst (AllByRecursion (NamesBelow 0)) (sym c.in_ok-nodes.ensures.items) (tt, tt) }

pub loop-level-preserved : goal.loop-level-preserved
loop-level-preserved c =
    let h = c.loop-level.invariant in
    elim c.if-negated.branch [
      | then-negated+in_ok-push w ↦ more c.loop-level.nodes.items _ nodes.Not (Not h.formula) h tt refl (ap (λ v. v.items) w.nodes-is ∙ w.in_ok-push.ensures.items)
      | else-negated+in_ok-push-2 w ↦ more c.loop-level.nodes.items _ (nodes.All 1) (All (and_then nothing h.formula)) h tt refl (ap (λ v. v.items) w.nodes-is ∙ w.in_ok-push-2.ensures.items)
    ]
