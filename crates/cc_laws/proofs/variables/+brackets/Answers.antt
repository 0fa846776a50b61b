use Rattle.std.proofs.Common.{◌∙◌, ◌++◌, List, ℕ, ap, sym}
use Rattle.cc_defs.specs.Trees.{plain_tree}
use Rattle.cc_laws.specs.FreeVariables.{free, optional}
use Rattle.cc_laws.specs.Vocabulary.{vocabulary_of}
use Rattle.cc_laws.proofs.Scopes.{popped}
use Rattle.cc_defs.specs.declared.tree.Tree.{Tree}
use Rattle.cc_laws.proofs.Unbound.{joined_free}
use Rattle.cc_laws.proofs.WithMade.{appended}
use Rattle.cc_laws.proofs.variables.+brackets.Goals as goal

pub add_inside-returns-clause-added : goal.add_inside-returns-clause-added
add_inside-returns-clause-added t c =
    c.in_ok-add_free.ensures.added
    ∙ ap (λ (bound : List ℕ). c.args.found.now.items ++ free (vocabulary_of c.args.table.now) bound (plain_tree c.args.inner.now))
    (c.in_ok-push.ensures.items ∙ ap (λ (more : List ℕ). c.args.bound.now.items ++ more) (sym (c.variable.ensures ∙ ap optional c.in-Some.is)))

pub add_inside-returns-clause-closed : goal.add_inside-returns-clause-closed
add_inside-returns-clause-closed t c =
    popped c.args.bound.now.items c.add_free-2.new.bound.items c.pop.new.self.items c.in-Some.number _ c.add_free-2.new.bound.ok.0
    (c.in_ok-add_free.ensures.closed ∙ c.in_ok-push.ensures.items) c.pop.ensures.rest

pub add_free-returns-in_ok-add_free-in-Both-clause-added : goal.add_free-returns-in_ok-add_free-in-Both-clause-added
add_free-returns-in_ok-add_free-in-Both-clause-added t c =
    let v = vocabulary_of c.args.table.now in
    let bound = c.args.bound.now.items in
    let inside = λ (bound : List ℕ) (t : Tree). free v bound (plain_tree t) in
    let second = c.deref-in-Both-2.result.now in
    appended c.add_free-in-Both.result c.args.found.now.items c.add_free.new.found.items c.add_free-in-Both.new.found.items
    (inside bound c.deref-in-Both.result.now) (inside c.add_free.new.bound.items second) (inside bound c.args.formula.now)
    c.in_ok-add_free-in-Both.ensures.added c.add_free-in-Both.ensures.added
    (ap (λ (t : Tree). inside bound t ++ inside c.add_free.new.bound.items second) c.deref-in-Both.ensures
    ∙ ap (λ (w : List ℕ). inside bound c.in-Both.first.value ++ inside w second) c.in_ok-add_free-in-Both.ensures.closed
    ∙ ap (λ (t : Tree). inside bound c.in-Both.first.value ++ inside bound t) c.deref-in-Both-2.ensures
    ∙ joined_free v bound c.args.formula.now c.in-Both.first c.in-Both.second c.in-Both.is)
