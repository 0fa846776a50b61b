-- That one of two positions of two values has the value 1 is a term over them.
use Rattle.std.proofs.Common.{◌≡◌, List, ℕ, [], ◌∷◌, refl, sym, subst, arith}
use Rattle.cc_defs.specs.declared.node.Node.{Node}
use Rattle.cc_defs.specs.declared.node.Node.TheVariants as nodes
use Rattle.cc_defs.specs.Terms.{Any, Atom, IsTermOver, and_then, nothing}
use Rattle.cc_form.specs.Machine.{moved_nodes}

term_here : IsTermOver (2 ∷ 2 ∷ []) (nodes.Atom 0 1 ∷ nodes.Atom 1 1 ∷ nodes.Any 2 ∷ [])
term_here = record {
  formula = Any (and_then (and_then nothing (Atom 0 1)) (Atom 1 1));
  written = refl;
  fits = ((2, refl, (omega arith)), ((2, refl, (omega arith)), (tt, tt)));
}

pub either_over : (sizes : List ℕ) (term : List Node) → sizes ≡ 2 ∷ 2 ∷ [] → term ≡ nodes.Atom 0 1 ∷ nodes.Atom 1 1 ∷ nodes.Any 2 ∷ [] → IsTermOver sizes (moved_nodes 0 term)
either_over sizes term same is = subst (λ (ns : List ℕ). IsTermOver ns (moved_nodes 0 term)) (sym same) (subst (λ (t : List Node). IsTermOver (2 ∷ 2 ∷ []) (moved_nodes 0 t)) (sym is) term_here)
