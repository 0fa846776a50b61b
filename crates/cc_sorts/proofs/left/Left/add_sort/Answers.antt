use Rattle.std.proofs.Common.{refl, sym}
use Rattle.std.proofs.lemmas.Result.{on_ok_weaker}
use Rattle.cc_sorts.specs.Lefts.{left_has_from, left_constant, left_has_name, left_has_pair, left_has_upper, has_sort}
use Rattle.cc_sorts.proofs.Lefts.{or_none, name_added}
use Rattle.cc_sorts.proofs.Swaps.{or_false}
use Rattle.cc_sorts.proofs.left.Left.add_sort.Goals as goal

pub returns : goal.returns
returns c = on_ok_weaker c.put_key.result (λ updates. record {
  table_is = refl;
  linked = λ linked. linked;
  uppers_are = λ name. sym (or_false (left_has_upper c.args.self.now name));
  constants_are = λ name. sym (or_none (left_constant c.args.self.now name));
  sorts_are = λ name. name_added (has_sort c.args.self.now.table.now name) _ _ c.args.name.now name (updates.0 (record { ref_ptr = (0, 0); now = name }));
  names_are = λ name. sym (or_false (left_has_name c.args.self.now name));
  numbers_are = λ low high sort. sym (or_false (left_has_from c.args.self.now low high sort));
  pairs_are = λ pair. sym (or_false (left_has_pair c.args.self.now pair));
}) c.put_key.ensures.updates
