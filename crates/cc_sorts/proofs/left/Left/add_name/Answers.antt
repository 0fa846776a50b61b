use Rattle.std.proofs.Common.{◌∙◌, false, ◌||◌, refl, sym, ap}
use Rattle.std.proofs.lemmas.Result.{on_ok_weaker}
use Rattle.cc_sorts.specs.Lefts.{left_has_from, left_constant, left_has_sort, left_has_name, left_has_pair, left_has_upper, has_name}
use Rattle.cc_sorts.proofs.Lefts.{or_none, name_added}
use Rattle.cc_sorts.proofs.Swaps.{or_false}
use Rattle.cc_defs.specs.Grammar.{same_text}
use Rattle.cc_sorts.proofs.left.Left.add_name.Goals as goal

pub returns-clause-object : goal.returns-clause-object
returns-clause-object c = λ sort. on_ok_weaker c.put_key.result (λ updates. record {
  table_is = refl;
  linked = λ linked. linked;
  uppers_are = λ name. sym (or_false (left_has_upper c.args.self.now name));
  constants_are = λ name. sym (or_none (left_constant c.args.self.now name));
  sorts_are = λ name. sym (or_false (left_has_sort c.args.self.now name));
  names_are = λ name. name_added (has_name c.args.self.now.table.now name) _ _ c.args.name.now name (updates.0 (record { ref_ptr = (0, 0); now = name }))
      ∙ ap (λ t. left_has_name c.args.self.now name || t) (sym (or_false (same_text name c.args.name.now || false)));
  numbers_are = λ low high sort. sym (or_false (left_has_from c.args.self.now low high sort));
  pairs_are = λ pair. sym (or_false (left_has_pair c.args.self.now pair));
}) c.put_key.ensures.updates

pub returns-clause-variable : goal.returns-clause-variable
returns-clause-variable c = λ sort. on_ok_weaker c.put_key.result (λ updates. record {
  table_is = refl;
  linked = λ linked. linked;
  uppers_are = λ name. sym (or_false (left_has_upper c.args.self.now name));
  constants_are = λ name. sym (or_none (left_constant c.args.self.now name));
  sorts_are = λ name. sym (or_false (left_has_sort c.args.self.now name));
  names_are = λ name. name_added (has_name c.args.self.now.table.now name) _ _ c.args.name.now name (updates.0 (record { ref_ptr = (0, 0); now = name }))
      ∙ ap (λ t. left_has_name c.args.self.now name || t) (sym (or_false (same_text name c.args.name.now || false)));
  numbers_are = λ low high sort. sym (or_false (left_has_from c.args.self.now low high sort));
  pairs_are = λ pair. sym (or_false (left_has_pair c.args.self.now pair));
}) c.put_key.ensures.updates
