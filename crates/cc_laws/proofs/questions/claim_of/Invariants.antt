use Rattle.std.proofs.Common.{◌≡◌, [], map, flat_map, drop}
use Rattle.cc_defs.specs.Trees.{plain_query_item}
use Rattle.cc_laws.specs.Questions.{first, claims_in}
use Rattle.cc_laws.proofs.questions.claim_of.Given as goal

abbrev pub invariant-loop-item : goal.invariant-loop-item
invariant-loop-item l = record {
  rest : first (flat_map claims_in (map plain_query_item (drop l.item-index l.items))) ≡ first (flat_map claims_in (map plain_query_item l.items));
  kept : l.names.bindings.items ≡ [];
  next : l.names.next ≡ l.fn.names.next;
}
