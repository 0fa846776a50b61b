-- The plain forms of terms and sums, by their parts.
use Rattle.std.proofs.Common.{◌≡◌, ◌==◌, not, List, [], ◌∷◌, ◌++◌, length, map, rules, refl, ap, sym, ◌∙◌}
use Rattle.std.proofs.Math.Dec.{eqb-suc-zero}
use Rattle.std.proofs.lemmas.List.{map-append}
use Rattle.cc_defs.specs.declared.tree.Piece.{Piece}
use Rattle.cc_defs.specs.declared.tree.Addend.{Addend}
use Rattle.cc_defs.specs.declared.tree.SumTree.{SumTree, SumTree-F, roll-SumTree, out-SumTree, roll-out-SumTree, rolls-SumTree', Row_of-Addend, end_of-Addend, more_of-Addend, items-the_row-Addend, items_hidden-the_row-Addend-0}
use Rattle.cc_defs.specs.declared.tree.TermTree.{TermTree, TermTree-F, roll-TermTree, rolls-TermTree', Row_of-SumTree, end_of-SumTree, more_of-SumTree, items-the_row-SumTree, items_hidden-the_row-SumTree-1}
use Rattle.cc_defs.specs.Trees.{PlainSum, Summed, Applied, MoreSums, MoreAddends, plain_term, plain_args, plain_sum, plain_addends, plain_piece}
use Rattle.cc_syntax.specs.Formulas.{has_more}
use Rattle.cc_syntax.specs.Terms.{plain_addend, sums_of, addends_of}

row_sums : (n : _) (row : Row_of-SumTree n) → plain_args row ≡ sums_of (map plain_sum (items-the_row-SumTree n row))
row_sums _ end_of-SumTree = refl
row_sums _ (more_of-SumTree sum rest) = ap (MoreSums (plain_sum sum)) (row_sums _ rest)

row_addends : (n : _) (row : Row_of-Addend n) → plain_addends row ≡ addends_of (map plain_addend (items-the_row-Addend n row))
row_addends _ end_of-Addend = refl
row_addends _ (more_of-Addend minus piece rest) = ap (MoreAddends minus (plain_piece piece)) (row_addends _ rest)

pub plain_made : (made : TermTree-F Piece Addend SumTree TermTree) → plain_term (roll-TermTree made) ≡ Applied made.name.now (sums_of (map plain_sum made.args.items))
plain_made made = rw rolls-TermTree' (search (rules, row_sums, items_hidden-the_row-SumTree-1))

pub sum_made : (made : SumTree-F Piece Addend SumTree TermTree) → plain_sum (roll-SumTree made) ≡ Summed (plain_piece made.first) (addends_of (map plain_addend made.rest.items))
sum_made made = rw rolls-SumTree' (search (rules, row_addends, items_hidden-the_row-Addend-0))

-- a sum that is taken apart
pub sum_parts : (sum : SumTree) → plain_sum sum ≡ Summed (plain_piece (out-SumTree sum).first) (addends_of (map plain_addend (out-SumTree sum).rest.items))
sum_parts sum = sym (ap plain_sum (roll-out-SumTree sum)) ∙ sum_made (out-SumTree sum)

pub more_seen : (items : List Addend) → has_more (addends_of (map plain_addend items)) ≡ not (length items == 0)
more_seen [] = refl
more_seen (item ∷ items) = ap not (sym (eqb-suc-zero (length items)))

pub plain_pushed : {T X : Type 0} (view : T → X) (items pushed : List T) (item : T) → pushed ≡ items ++ item ∷ [] → map view pushed ≡ map view items ++ view item ∷ []
plain_pushed view items pushed item e = ap (map view) e ∙ map-append view items (item ∷ [])

-- a term whose last argument was read
pub plain_applied : (made : TermTree-F Piece Addend SumTree TermTree) (sums : List SumTree) (last : SumTree) → made.args.items ≡ sums ++ last ∷ []
    → Applied made.name.now (sums_of (map plain_sum sums ++ plain_sum last ∷ [])) ≡ plain_term (roll-TermTree made)
plain_applied made sums last e =
    ap (λ (items : List PlainSum). Applied made.name.now (sums_of items)) (sym (plain_pushed plain_sum sums made.args.items last e)) ∙ sym (plain_made made)
