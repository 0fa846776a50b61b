use Rattle.std.proofs.Common.{◌≡◌, ◌+◌, [], map, drop}
use Rattle.cc_defs.specs.Resolved.{plain_formula}
use Rattle.cc_defs.specs.Trees.{plain_tree}
use Rattle.cc_laws.specs.Questions.{joined, joined_behind}
use Rattle.cc_laws.specs.Resolving.{resolve_all, brackets_in}
use Rattle.cc_laws.specs.Vocabulary.{vocabulary_of}
use Rattle.cc_laws.proofs.questions.joined.Given as goal

abbrev pub invariant-loop-formula : goal.invariant-loop-formula
invariant-loop-formula l = record {
  made :
      joined_behind (plain_formula l.made) (resolve_all (vocabulary_of l.table) l.names.next (map plain_tree (drop l.formula-index l.others)))
      ≡ joined (resolve_all (vocabulary_of l.table) l.fn.names.next (map plain_tree l.formulas));
  kept : l.names.bindings.items ≡ [];
  next : l.names.next + brackets_in (map plain_tree (drop l.formula-index l.others)) ≡ l.fn.names.next + brackets_in (map plain_tree l.formulas);
}
