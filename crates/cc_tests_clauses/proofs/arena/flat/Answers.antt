use Rattle.std.proofs.Common.{[], ◌∷◌, ◌++◌, refl, sym, subst, ap, ◌∙◌, ◌≡◌, arith}
use Rattle.std.specs.List.{AllByRecursion}
use Rattle.cc_defs.specs.declared.node.Node.TheVariants as nodes
use Rattle.cc_defs.specs.Terms.{Atom, All, NamesBelow, nothing, and_then, operand_count, postfixes}
use Rattle.cc_tests_clauses.proofs.Each.{all_append}
use Rattle.cc_tests_clauses.proofs.arena.flat.Goals as goal

pub loop-place-init : goal.loop-place-init
loop-place-init c = (nothing, c.new-nodes.ensures.items, refl, subst (AllByRecursion (NamesBelow 1)) (sym c.new-nodes.ensures.items) tt)

pub loop-place-preserved : goal.loop-place-preserved
loop-place-preserved c =
    let h = c.loop-place.invariant in
    let atom = nodes.Atom 0 c.if-place-odd.value in (
      and_then h.0 (Atom 0 c.if-place-odd.value),
      c.in_ok-push.ensures.items ∙ ap (λ front. front ++ (atom ∷ [])) h.1,
      omega (arith, h.2),
      subst (AllByRecursion (NamesBelow 1)) (sym c.in_ok-push.ensures.items) (all_append (NamesBelow 1) c.loop-place.nodes.items (atom ∷ []) h.3 (omega arith, tt)),
    )

pub returns : goal.returns
returns c =
    let h = c.loop-place.invariant in
    let count : c.args.count ≡ operand_count h.0 = omega (arith, h.2) in
    record {
      formula = All h.0;
      written = c.in_ok-push-2.ensures.items ∙ ap (λ front. front ++ (nodes.All c.args.count ∷ [])) h.1 ∙ ap (λ n. postfixes h.0 ++ (nodes.All n ∷ [])) count;
      names = subst (AllByRecursion (NamesBelow 1)) (sym c.in_ok-push-2.ensures.items) (all_append (NamesBelow 1) c.loop-place.nodes.items (nodes.All c.args.count ∷ []) h.3 (tt, tt));
    }
