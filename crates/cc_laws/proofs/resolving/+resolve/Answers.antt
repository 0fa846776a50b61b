use Rattle.std.proofs.Common.{◌∙◌, ◌≡◌, [], List, ap, subst, ◌+◌, ◌∷◌, ℕ, OnOk, sym, refl}
use Rattle.std.specs.Prelude.{IfOk}
use Rattle.cc_defs.specs.Resolved.{plain_formula, Formula, Not}
use Rattle.cc_defs.specs.Trees.{plain_tree}
use Rattle.cc_laws.specs.Resolving.{Binding, resolve, brackets, resolve_bracket}
use Rattle.cc_laws.specs.Views.{inside, bracket_over, joined_by, scope_of, bracket_before}
use Rattle.cc_laws.specs.Vocabulary.{vocabulary_of, Meaning, meaning}
use Rattle.cc_laws.proofs.Scopes.{pushed, popped, counted_on}
use Rattle.cc_laws.specs.declared.resolving.Joint.{Joint}
use Rattle.cc_laws.specs.declared.names.Binding.{Binding as KeptBinding}
use Rattle.cc_laws.proofs.resolving.+resolve.Goals.{resolve_two-in-Both, resolve_two-in-Either, resolve_two-in-Implies, resolve_two-in-Same}
use Rattle.cc_defs.specs.declared.tree.Tree.{Tree}
use Rattle.cc_laws.specs.declared.resolving.Bracket.{Bracket}
use Rattle.cc_laws.proofs.WithMade.{by_either}
use Rattle.cc_laws.proofs.resolving.+resolve.Goals as goal

pub resolve_inside-returns-clause-made : goal.resolve_inside-returns-clause-made
resolve_inside-returns-clause-made t c =
    let resolved = λ (scope : List Binding). resolve (vocabulary_of c.args.table.now) scope c.args.names.now.next (plain_tree c.args.inner.now) in
    ap plain_formula c.in_ok-made.ensures.ok ∙ c.in_ok-resolve.ensures.made
    ∙ ap resolved (pushed c.args.names.now.bindings.items c.push.new.self.items c.args.binding c.in_ok-push.ensures.items)

pub resolve_inside-returns-clause-next : goal.resolve_inside-returns-clause-next
resolve_inside-returns-clause-next t c =
    c.in_ok-resolve.ensures.next

pub resolve_inside-returns-clause-kept : goal.resolve_inside-returns-clause-kept
resolve_inside-returns-clause-kept t c =
    popped c.args.names.now.bindings.items c.resolve.new.names.bindings.items c.pop.new.self.items c.args.binding _ c.resolve.new.names.bindings.ok.0
    (c.in_ok-resolve.ensures.kept ∙ c.in_ok-push.ensures.items) c.pop.ensures.rest

pub resolve_not-returns-clause-made : goal.resolve_not-returns-clause-made
resolve_not-returns-clause-made t c =
    ap Not (ap plain_formula c.in_ok-inner.ensures.ok ∙ c.in_ok-resolve.ensures.made)

pub resolve_two-returns-clause-next : goal.resolve_two-returns-clause-next
resolve_two-returns-clause-next t c =
    counted_on c.resolve-2.new.names.next c.resolve.new.names.next c.args.names.now.next (brackets (plain_tree c.args.first.now)) (brackets (plain_tree c.args.second.now))
    c.in_ok-resolve-2.ensures.next c.in_ok-resolve.ensures.next

pub resolve_two-returns-clause-made : goal.resolve_two-returns-clause-made
resolve_two-returns-clause-made t c =
    let v = vocabulary_of c.args.table.now in
    let old = c.args.names.now in
    let new = c.resolve.new.names in
    let one = plain_formula c.in_ok-first.first.value in
    let other = plain_formula c.in_ok-second.second.value in
    let first = resolve v (scope_of old) old.next (plain_tree c.args.first.now) in
    let second = λ (scope : List Binding) (n : ℕ). resolve v scope n (plain_tree c.args.second.now) in
    let made : plain_formula c.match-joint.result ≡ joined_by c.args.joint one other = elim c.match-joint.branch [
      | resolve_two-in-Both w ↦ ap plain_formula w.result-is ∙ sym (ap (λ (j : Joint). joined_by j one other) w.in-Both.is)
      | resolve_two-in-Either w ↦ ap plain_formula w.result-is ∙ sym (ap (λ (j : Joint). joined_by j one other) w.in-Either.is)
      | resolve_two-in-Implies w ↦ ap plain_formula w.result-is ∙ sym (ap (λ (j : Joint). joined_by j one other) w.in-Implies.is)
      | resolve_two-in-Same w ↦ ap plain_formula w.result-is ∙ sym (ap (λ (j : Joint). joined_by j one other) w.in-Same.is)
    ] in
    made
    ∙ ap (λ (f : Formula). joined_by c.args.joint f other) (ap plain_formula c.in_ok-first.ensures.ok ∙ c.in_ok-resolve.ensures.made)
    ∙ ap (joined_by c.args.joint first) (ap plain_formula c.in_ok-second.ensures.ok ∙ c.in_ok-resolve-2.ensures.made
    ∙ ap (λ (items : List KeptBinding). second (inside [] items) new.next) c.in_ok-resolve.ensures.kept
    ∙ ap (second (scope_of old)) c.in_ok-resolve.ensures.next)

pub resolve_bracket-returns-in_ok-inner-in-Variable-clause-made : goal.resolve_bracket-returns-in_ok-inner-in-Variable-clause-made
resolve_bracket-returns-in_ok-inner-in-Variable-clause-made t c =
    let old = c.args.names.now in
    let new = c.fresh.new.self in
    let variable = c.in-Variable.variable in
    let make = λ (n : ℕ). bracket_over c.args.bracket n c.in-Variable.sort in
    let seen = λ (scope : List Binding) (next : ℕ). resolve (vocabulary_of c.args.table.now) scope next (plain_tree c.args.inner.now) in
    c.bracket_of.ensures
    ∙ ap (make c.in_ok-number.number) (c.in_ok-inner-in-Variable.ensures.made
    ∙ ap (λ (items : List KeptBinding). seen (record { variable = variable; number = c.in_ok-number.number } ∷ inside [] items) new.next) c.in_ok-number.ensures.kept
    ∙ ap (seen (record { variable = variable; number = c.in_ok-number.number } ∷ scope_of old)) c.in_ok-number.ensures.next)
    ∙ ap (λ (n : ℕ). make n (seen (record { variable = variable; number = n } ∷ scope_of old) (old.next + 1))) c.in_ok-number.ensures.number
    ∙ ap (λ (means : Meaning). resolve_bracket (bracket_over c.args.bracket) (scope_of old) old.next means (λ scope. seen scope (old.next + 1))) c.in-Variable.ensures

pub resolve-returns-in-ForAll-clause-made : goal.resolve-returns-in-ForAll-clause-made
resolve-returns-in-ForAll-clause-made t c =
    let v = vocabulary_of c.args.table.now in
    let scope = scope_of c.args.names.now in
    let next = c.args.names.now.next in
    let bracket = λ (b : Bracket) (inner : Tree). resolve_bracket (bracket_over b) scope next (meaning v c.in-ForAll.name.now) (λ seen. resolve v seen (next + 1) (plain_tree inner)) in
    subst (λ (w : Formula). IfOk c.resolve_bracket.result (λ made. plain_formula made ≡ w))
    (ap (bracket c.bracket_in.result) c.deref-in-ForAll.ensures ∙ ap (λ (b : Bracket). bracket b c.in-ForAll.inner.value) c.bracket_in.ensures
    ∙ by_either (λ (f : Tree). bracket (bracket_before (plain_tree f)) c.in-ForAll.inner.value ≡ resolve v scope next (plain_tree f)) c.args.formula.now _ _ c.in-ForAll.is refl refl)
    c.resolve_bracket.ensures.made
