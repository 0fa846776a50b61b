use Rattle.std.proofs.Common.{◌<◌, ℕ, List, arith, subst, sym, ap, ◌∙◌}
use Rattle.cc_defs.specs.declared.node.Node.TheVariants as nodes
use Rattle.cc_defs.specs.ClauseForms.{positive, atom_variable}
use Rattle.cc_defs.specs.Terms.{Fits}
use Rattle.cc_form.proofs.Positions.{atom_below, atom_number, atom_some, atom_within}
use Rattle.cc_form.proofs.places.Places.atom.Goals as goal

pub index-requires : goal.index-requires
index-requires c = subst (λ (n : ℕ). c.args.position < n) (sym c.self.inside.firsts.ok.0) (atom_within c.self.inside.sizes.items c.self.inside.firsts.items c.args.position c.args.value 0
    (subst (λ (s : List ℕ). Fits s (nodes.Atom c.args.position c.args.value)) (sym c.self.view_is) c.requires) c.self.invariant.firsts_are)

pub positive-requires-clause-some : goal.positive-requires-clause-some
positive-requires-clause-some c =
    let fits = subst (λ (s : List ℕ). Fits s (nodes.Atom c.args.position c.args.value)) (sym c.self.view_is) c.requires in
    let i = c.self.inside in
    let number = atom_number i.sizes.items c.self.inside.firsts.items c.args.position c.args.value c.index.result.now fits c.self.invariant.firsts_are c.index.ensures in
    let some = atom_some i.sizes.items c.args.position c.args.value in
    omega arith

pub positive-requires-clause-most : goal.positive-requires-clause-most
positive-requires-clause-most c =
    let fits = subst (λ (s : List ℕ). Fits s (nodes.Atom c.args.position c.args.value)) (sym c.self.view_is) c.requires in
    let i = c.self.inside in
    let number = atom_number i.sizes.items c.self.inside.firsts.items c.args.position c.args.value c.index.result.now fits c.self.invariant.firsts_are c.index.ensures in
    let below = atom_below i.sizes.items c.args.position c.args.value fits in
    let within = c.self.invariant.within in
    omega arith

pub overflow_add-index : goal.overflow_add-index
overflow_add-index c =
    let fits = subst (λ (s : List ℕ). Fits s (nodes.Atom c.args.position c.args.value)) (sym c.self.view_is) c.requires in
    let i = c.self.inside in
    let number = atom_number i.sizes.items c.self.inside.firsts.items c.args.position c.args.value c.index.result.now fits c.self.invariant.firsts_are c.index.ensures in
    let below = atom_below i.sizes.items c.args.position c.args.value fits in
    let within = c.self.invariant.within in
    omega arith

pub returns : goal.returns
returns c =
    let fits = subst (λ (s : List ℕ). Fits s (nodes.Atom c.args.position c.args.value)) (sym c.self.view_is) c.requires in
    let i = c.self.inside in
    c.positive.ensures ∙ ap positive (atom_number i.sizes.items c.self.inside.firsts.items c.args.position c.args.value c.index.result.now fits c.self.invariant.firsts_are c.index.ensures)
    ∙ ap (λ (s : List ℕ). positive (atom_variable s c.args.position c.args.value)) c.self.view_is
