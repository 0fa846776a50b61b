use Rattle.std.proofs.Common.{ap, subst, sym, length, arith, ◌∙◌, map, List, ℕ}
use Rattle.std.specs.Prelude.{OnOk}
use Rattle.cc_defs.specs.Declarations.{is_below}
use Rattle.cc_sorts.specs.Lists.{AreBelow}
use Rattle.cc_sorts.specs.Searches.{Grows}
use Rattle.cc_sorts.specs.SortViews.{name_at}
use Rattle.cc_sorts.proofs.Upward.{grows_none, numbers_below, uppers_by_number, no_uppers}
use Rattle.cc_sorts.proofs.left.add_table_uppers.Goals as goal

pub add_numbered-requires : goal.add_numbered-requires
add_numbered-requires c =
    subst (AreBelow (length c.args.sorts.now.names)) (sym c.above.ensures)
    (numbers_below (λ other. is_below c.args.sorts.now.pairs (name_at c.args.sorts.now c.in-Some.number) other) (length c.args.sorts.now.names) 0 c.args.sorts.now.names (omega arith))

pub returns-in-Some : goal.returns-in-Some
returns-in-Some c =
    subst (λ (names : List (List ℕ)). OnOk c.add_numbered.result (Grows c.args.found.now.keys c.add_numbered.new.found.keys names))
    (ap (map (name_at c.args.sorts.now)) c.above.ensures ∙ uppers_by_number c.args.sorts.now c.args.sort.now c.in-Some.number c.in-Some.ensures)
    c.add_numbered.ensures

pub returns-in-None : goal.returns-in-None
returns-in-None c = subst (Grows c.args.found.now.keys c.args.found.now.keys) (sym (no_uppers c.args.sorts.now c.args.sort.now c.in-None.ensures)) (grows_none c.args.found.now.keys)
