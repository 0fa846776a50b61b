use Rattle.std.proofs.Common.{◌∙◌, refl, sym}
use Rattle.std.proofs.lemmas.Result.{on_ok_weaker}
use Rattle.cc_defs.specs.Trees.{plain_shape, plain_kind}
use Rattle.cc_sorts.specs.Lefts.{left_has_from, left_has_sort, left_has_pair, left_has_upper, has_name}
use Rattle.cc_sorts.proofs.Lefts.{name_added}
use Rattle.cc_sorts.proofs.Swaps.{or_false}
use Rattle.cc_sorts.proofs.Counts.{constant_kept, constant_put}
use Rattle.cc_sorts.proofs.left.Left.add_constant.Goals as goal

pub returns-then-contains_key : goal.returns-then-contains_key
returns-then-contains_key c = λ file line. record {
  table_is = refl;
  linked = λ linked. linked;
  uppers_are = λ name. sym (or_false (left_has_upper c.args.self.now name));
  sorts_are = λ name. sym (or_false (left_has_sort c.args.self.now name));
  names_are = λ name. name_added (has_name c.args.self.now.table.now name) _ _ c.args.shape.now.name.now name (c.in_ok-put_key.ensures.updates.0 (record { ref_ptr = (0, 0); now = name }));
  numbers_are = λ low high sort. sym (or_false (left_has_from c.args.self.now low high sort));
  pairs_are = λ pair. sym (or_false (left_has_pair c.args.self.now pair));
  constants_are = λ name. constant_kept c.args.self.now (record { shape = plain_shape c.args.shape.now; kind = plain_kind c.args.kind.now; file = file; line = line }) name (sym c.if-contains_key.ensures);
}

pub returns : goal.returns
returns c = λ file line. on_ok_weaker c.put_entry.result (λ updates. record {
  table_is = refl;
  linked = λ linked. linked;
  uppers_are = λ name. sym (or_false (left_has_upper c.args.self.now name));
  sorts_are = λ name. sym (or_false (left_has_sort c.args.self.now name));
  names_are = λ name. name_added (has_name c.args.self.now.table.now name) _ _ c.args.shape.now.name.now name (c.in_ok-put_key.ensures.updates.0 (record { ref_ptr = (0, 0); now = name }));
  numbers_are = λ low high sort. sym (or_false (left_has_from c.args.self.now low high sort));
  pairs_are = λ pair. sym (or_false (left_has_pair c.args.self.now pair));
  constants_are = λ name. constant_put c.args.self.now (record { table = c.args.self.now.table; sorts = c.args.self.now.sorts; names = c.put_key.new.set; ranges = c.args.self.now.ranges; constants = c.put_entry.new.map; pairs = c.args.self.now.pairs; uppers = c.args.self.now.uppers; uppers_of = c.args.self.now.uppers_of }) _ (record { shape = plain_shape c.args.shape.now; kind = plain_kind c.args.kind.now; file = file; line = line }) name (sym c.contains_key.ensures ∙ c.if-contains_key.false) refl (updates.0 (record { ref_ptr = (0, 0); now = name }));
}) c.put_entry.ensures.updates
