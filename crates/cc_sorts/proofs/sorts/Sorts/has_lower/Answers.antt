use Rattle.std.proofs.Common.{◌∙◌, List, ℕ, ap, length, sym}
use Rattle.std.specs.Prelude.{nat_lt}
use Rattle.std.specs.List.{list_any}
use Rattle.cc_defs.specs.Declarations.{Pair}
use Rattle.cc_defs.specs.Grammar.{same_text}
use Rattle.cc_sorts.specs.Dictionaries.{number_of, names_of}
use Rattle.cc_sorts.specs.Lists.{lists_of}
use Rattle.cc_sorts.specs.SortParts.{named_pairs}
use Rattle.cc_sorts.specs.SortViews.{SortsView}
use Rattle.cc_sorts.proofs.Reading.{read_below}
use Rattle.cc_sorts.proofs.Uppers.{found_name, is_upper_is, without_any}
use Rattle.cc_sorts.proofs.sorts.Sorts.has_lower.Goals as goal

pub returns-in-Some : goal.returns-in-Some
returns-in-Some c =
    let inside = c.self.inside in
    let names : List (List ℕ) = names_of inside.names in
    let found = found_name names c.args.name.now c.in-Some.sort (sym c.find.ensures ∙ c.in-Some.is) in
    let there = (found_name c.args.self.now.names c.args.name.now c.in-Some.sort
    (sym (ap (λ (view : SortsView). number_of view.names c.args.name.now) c.self.view_is) ∙ sym c.find.ensures ∙ c.in-Some.is)).0 in
    ap (λ (list : List ℕ). nat_lt 1 (length list))
    (read_below inside c.args.self.now c.self.view_is c.self.invariant c.in-Some.sort there c.index.result.now c.deref-below.result.now c.deref-below.ensures.value c.index.ensures)
    ∙ is_upper_is names inside.pairs.items inside.known.keys (lists_of inside.above.items) (lists_of inside.below.items) (lists_of inside.members.items) c.self.invariant c.in-Some.sort found.0
    ∙ ap (λ (text : List ℕ). list_any (λ (pair : Pair). same_text text pair.0) (named_pairs names inside.pairs.items)) found.1
    ∙ ap (λ (view : SortsView). list_any (λ (pair : Pair). same_text c.args.name.now pair.0) view.pairs) c.self.view_is

pub returns-in-None : goal.returns-in-None
returns-in-None c =
    without_any c.self.inside c.args.self.now c.self.view_is c.self.invariant c.args.name.now
    (sym (ap (λ (view : SortsView). number_of view.names c.args.name.now) c.self.view_is) ∙ sym c.find.ensures ∙ c.in-None.is)
