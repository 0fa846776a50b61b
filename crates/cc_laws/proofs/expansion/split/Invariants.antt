use Rattle.std.proofs.Common.{◌≡◌, map}
use Rattle.cc_defs.specs.Resolved.{plain_base_law, plain_head}
use Rattle.cc_laws.specs.Expansion.{law_for}
use Rattle.cc_laws.specs.Views.{frame_from, plain_caused}
use Rattle.cc_laws.specs.Vocabulary.{vocabulary_of}
use Rattle.cc_laws.proofs.expansion.split.Given as goal

abbrev pub invariant-loop-head : goal.invariant-loop-head
invariant-loop-head l =
    map plain_base_law l.made.items ≡ map (law_for (vocabulary_of l.table) (frame_from (vocabulary_of l.table) l.source) (plain_caused l.law l.later)) (map plain_head l.yielded)
