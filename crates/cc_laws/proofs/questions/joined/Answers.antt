use Rattle.cc_laws.specs.Vocabulary.{vocabulary_of}
use Rattle.cc_laws.proofs.Joining.{joined_more, brackets_more, all_joined, all_brackets}
use Rattle.std.proofs.Common.{◌∙◌, ◌+◌, List, [], ℕ, ap, map, refl, sym}
use Rattle.std.proofs.lemmas.List.{nil_from_length}
use Rattle.cc_defs.specs.declared.tree.Tree.{Tree}
use Rattle.cc_defs.specs.Resolved.{Formula}
use Rattle.cc_defs.specs.Trees.{plain_tree}
use Rattle.cc_laws.specs.declared.names.Binding.{Binding}
use Rattle.cc_laws.specs.Questions.{joined, joined_behind}
use Rattle.cc_laws.specs.Resolving.{brackets, brackets_in, resolve, resolve_all}
use Rattle.cc_laws.specs.Views.{inside}
use Rattle.cc_laws.proofs.Scopes.{counted_on, none_counted}
use Rattle.cc_laws.proofs.questions.joined.Goals as goal

pub loop-formula-preserved : goal.loop-formula-preserved
loop-formula-preserved c =
    let v = vocabulary_of c.args.table.now in
    let inv = c.loop-formula.invariant in
    let next = c.loop-formula.names.next in
    record {
      made = joined_more v c.in-Some.others.now c.loop-formula.formula-index next 0 c.formula-item.result c.loop-formula-test.true c.formula-item.is c.and_next.new.names.next c.in_ok-made-2.ensures.next _ _ _ c.in_ok-made-2.ensures.made inv.made;
      kept = c.in_ok-made-2.ensures.kept;
      next = brackets_more v c.in-Some.others.now c.loop-formula.formula-index next _ c.formula-item.result c.loop-formula-test.true c.formula-item.is c.and_next.new.names.next c.in_ok-made-2.ensures.next inv.next;
    }

pub returns-clause-made : goal.returns-clause-made
returns-clause-made c = all_joined (vocabulary_of c.args.table.now) c.in-Some.others.now c.loop-formula.formula-index c.loop-formula.names.next 0 _ _ c.loop-formula-test.false c.loop-formula.invariant.made

pub returns-clause-kept : goal.returns-clause-kept
returns-clause-kept c = c.loop-formula.invariant.kept

pub returns-clause-next : goal.returns-clause-next
returns-clause-next c = all_brackets (vocabulary_of c.args.table.now) c.in-Some.others.now c.loop-formula.formula-index c.loop-formula.names.next _ c.loop-formula-test.false c.loop-formula.invariant.next

pub returns-in_default-clause-made : goal.returns-in_default-clause-made
returns-in_default-clause-made c =
    sym (ap (λ (l : List Tree). joined (resolve_all (vocabulary_of c.args.table.now) c.args.names.now.next (map plain_tree l))) (nil_from_length c.args.formulas.now c.in_default.ensures.cases))

pub returns-in_default-clause-next : goal.returns-in_default-clause-next
returns-in_default-clause-next c =
    none_counted c.args.names.now.next (brackets_in (map plain_tree c.args.formulas.now)) (ap (λ (l : List Tree). brackets_in (map plain_tree l)) (nil_from_length c.args.formulas.now c.in_default.ensures.cases))

pub loop-formula-init : goal.loop-formula-init
loop-formula-init c =
    let v = vocabulary_of c.args.table.now in
    let old = c.args.names.now.next in
    let new = c.resolve.new.names.next in
    let first = plain_tree c.in-Some.first.now in
    let others = map plain_tree c.in-Some.others.now in
    record {
      made =
          ap (λ (f : Formula). joined_behind f (resolve_all v new others)) (c.in_ok-made.ensures.made ∙ ap (λ (items : List Binding). resolve v (inside [] items) old first) c.requires)
          ∙ ap (λ (n : ℕ). joined_behind (resolve v [] old first) (resolve_all v n others)) c.in_ok-made.ensures.next
          ∙ sym (ap (λ (l : List Tree). joined (resolve_all v old (map plain_tree l))) c.in-Some.ensures.cases.0);
      kept = c.in_ok-made.ensures.kept ∙ c.requires;
      next =
          counted_on (new + brackets_in others) new old (brackets first) (brackets_in others) refl c.in_ok-made.ensures.next
          ∙ sym (ap (λ (l : List Tree). old + brackets_in (map plain_tree l)) c.in-Some.ensures.cases.0);
    }
