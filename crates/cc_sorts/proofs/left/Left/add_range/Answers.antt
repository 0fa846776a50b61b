use Rattle.std.proofs.Common.{◌∙◌, ◌||◌, List, ℕ, refl, sym, ap}
use Rattle.std.specs.List.{list_any, find}
use Rattle.std.specs.Option.{option_map, option_or}
use Rattle.cc_defs.specs.DeclarationFaults.{same_pair}
use Rattle.cc_defs.specs.Declarations.{Declared, Pair, sort_named, pair_declared, constant_declared, from_to}
use Rattle.cc_defs.specs.Grammar.{same_text}
use Rattle.cc_sorts.specs.Lefts.{left_constant, left_has_sort, left_has_name, left_has_pair, left_has_upper, table_has_from, shaped}
use Rattle.cc_sorts.proofs.Lefts.{or_none}
use Rattle.cc_sorts.proofs.Swaps.{or_false}
use Rattle.cc_sorts.proofs.Ranges.{range_added, flat_none, takes_none}
use Rattle.cc_sorts.proofs.left.Left.add_range.Goals as goal

pub returns : goal.returns
returns c = record {
  table_is = refl;
  linked = λ linked. linked;
  uppers_are = λ name. sym (ap (λ (w : List Pair). left_has_upper c.args.self.now name || list_any (λ (pair : Pair). same_text name pair.0) w) (flat_none pair_declared c.args.sort.now (from_to c.args.low c.args.high) (λ value. refl))
      ∙ or_false (left_has_upper c.args.self.now name));
  constants_are = λ name. sym (ap (λ (w : List Declared). option_or (left_constant c.args.self.now name) (option_map shaped (find (λ (constant : Declared). same_text name constant.shape.name) w)))
      (flat_none constant_declared c.args.sort.now (from_to c.args.low c.args.high) (λ value. refl)) ∙ or_none (left_constant c.args.self.now name));
  sorts_are = λ name. sym (ap (λ (w : List (List ℕ)). left_has_sort c.args.self.now name || list_any (same_text name) w) (flat_none sort_named c.args.sort.now (from_to c.args.low c.args.high) (λ value. refl))
      ∙ or_false (left_has_sort c.args.self.now name));
  names_are = λ name. sym (ap (λ t. left_has_name c.args.self.now name || t) (takes_none name c.args.sort.now (from_to c.args.low c.args.high)) ∙ or_false (left_has_name c.args.self.now name));
  numbers_are = λ low high sort. range_added (table_has_from c.args.self.now.table.now low high sort) low high sort c.args.self.now.ranges.items c.push.new.self.items _ c.in_ok-push.ensures.items;
  pairs_are = λ pair. sym (ap (λ (w : List Pair). left_has_pair c.args.self.now pair || list_any (same_pair pair) w) (flat_none pair_declared c.args.sort.now (from_to c.args.low c.args.high) (λ value. refl))
      ∙ or_false (left_has_pair c.args.self.now pair));
}
