use Rattle.std.proofs.Common.{◌≡◌, ◌+◌, ◌≤◌, length, map, flat_map, drop}
use Rattle.cc_defs.specs.Trees.{plain_query_item}
use Rattle.cc_laws.specs.Questions.{labels_in}
use Rattle.cc_laws.proofs.questions.count_labels.Given as goal

abbrev pub invariant-loop-item : goal.invariant-loop-item
invariant-loop-item l = record {
  within : l.count ≤ l.item-index;
  counted : l.count + length (flat_map labels_in (map plain_query_item (drop l.item-index l.items))) ≡ length (flat_map labels_in (map plain_query_item l.items));
}
