use Rattle.std.proofs.Common.{◌∙◌, false, ◌||◌, refl, sym, ap}
use Rattle.std.specs.List.{list_any}
use Rattle.std.proofs.lemmas.Result.{on_ok_weaker}
use Rattle.cc_defs.specs.DeclarationFaults.{same_pair}
use Rattle.cc_defs.specs.Grammar.{same_text}
use Rattle.cc_sorts.specs.Lefts.{left_has_from, new_uppers, left_constant, left_has_sort, left_has_name}
use Rattle.cc_sorts.proofs.Lefts.{or_none, name_added, pair_added}
use Rattle.cc_sorts.proofs.Swaps.{or_false}
use Rattle.cc_sorts.proofs.left.Left.add_pair.Goals as goal

pub returns : goal.returns
returns c = on_ok_weaker c.add_upper.result (λ adds. record {
  table_is = refl;
  linked = λ linked pair.
      pair_added false _ _ (c.args.upper.now, c.args.lower.now) pair
      (c.in_ok-put_key.ensures.updates.0 (record { upper = record { ref_ptr = (0, 0); now = pair.0 }; lower = record { ref_ptr = (0, 0); now = pair.1 } }))
      ∙ ap (λ t. t || (same_pair pair (c.args.upper.now, c.args.lower.now) || false)) (linked pair)
      ∙ ap (λ t. list_any (same_text pair.0) (new_uppers c.args.self.now pair.1) || t) (or_false (same_pair pair (c.args.upper.now, c.args.lower.now)))
      ∙ sym (adds pair);
  uppers_are = λ name. name_added _ _ _ c.args.upper.now name (c.in_ok-put_key-2.ensures.updates.0 (record { ref_ptr = (0, 0); now = name }));
  constants_are = λ name. sym (or_none (left_constant c.args.self.now name));
  sorts_are = λ name. sym (or_false (left_has_sort c.args.self.now name));
  names_are = λ name. sym (or_false (left_has_name c.args.self.now name));
  numbers_are = λ low high sort. sym (or_false (left_has_from c.args.self.now low high sort));
  pairs_are = λ pair. pair_added _ _ _ (c.args.upper.now, c.args.lower.now) pair
      (c.in_ok-put_key.ensures.updates.0 (record { upper = record { ref_ptr = (0, 0); now = pair.0 }; lower = record { ref_ptr = (0, 0); now = pair.1 } }));
}) c.add_upper.ensures
