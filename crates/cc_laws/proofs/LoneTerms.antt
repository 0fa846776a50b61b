-- Sums that are one piece.
use Rattle.std.proofs.Common.{◌≡◌, ◌∙◌, Bool, true, false, List, [], ◌∷◌, length, None, refl, sym, ap}
use Rattle.std.specs.Prelude.{◌==◌}
use Rattle.std.specs.List.{list_any}
use Rattle.std.proofs.Math.Dec.{eqb-suc-zero}
use Rattle.cc_defs.specs.declared.tree.Addend.{Addend}
use Rattle.cc_defs.specs.declared.tree.SumTree.{SumTree, out-SumTree}
use Rattle.cc_defs.specs.Trees.{PlainPiece, Numeral, Called, PlainAddends, NoAddends, MoreAddends, PlainSum, Summed, plain_piece, plain_sum}
use Rattle.cc_laws.specs.FormulaFaults.{piece_misfits, sum_misfits}
use Rattle.cc_laws.specs.Leaves.{lone, pieces}
use Rattle.cc_laws.specs.Views.{plain_added, is_single, piece_name}
use Rattle.cc_laws.specs.Vocabulary.{Vocabulary}
use Rattle.cc_laws.proofs.Mentions.{sum_parts}

single_items : (first : PlainPiece) (items : List Addend) → is_single (Summed first (plain_added items)) ≡ (length items == 0)
single_items first [] = refl
single_items first (addend ∷ addends) = sym (eqb-suc-zero (length addends))

pub single_by : (sum : SumTree) (items : List Addend) (test : Bool) → test ≡ (length items == 0) → items ≡ (out-SumTree sum).rest.items → test ≡ is_single (plain_sum sum)
single_by sum items test e f =
    e ∙ ap (λ (l : List Addend). length l == 0) f ∙ sym (single_items (plain_piece (out-SumTree sum).first) (out-SumTree sum).rest.items) ∙ sym (ap is_single (sum_parts sum))

lone_of : (first : PlainPiece) (rest : PlainAddends) → is_single (Summed first rest) ≡ true → piece_name first ≡ lone (Summed first rest)
lone_of (Numeral number) rest e = refl
lone_of (Called term) NoAddends e = refl
lone_of (Called term) (MoreAddends minus piece others) e = absurd cc

pub single_lone : (sum : SumTree) → is_single (plain_sum sum) ≡ true → piece_name (plain_piece (out-SumTree sum).first) ≡ lone (plain_sum sum)
single_lone sum e =
    lone_of (plain_piece (out-SumTree sum).first) (plain_added (out-SumTree sum).rest.items) (sym (ap is_single (sum_parts sum)) ∙ e) ∙ sym (ap lone (sum_parts sum))

pub not_lone : (sum : PlainSum) → is_single sum ≡ false → None ≡ lone sum
not_lone (Summed first NoAddends) e = absurd cc
not_lone (Summed (Numeral number) (MoreAddends minus piece others)) e = refl
not_lone (Summed (Called term) (MoreAddends minus piece others)) e = refl

pub single_fits : (v : Vocabulary) (sum : PlainSum) → is_single sum ≡ true → false ≡ sum_misfits v sum
single_fits v (Summed first NoAddends) e = refl
single_fits v (Summed first (MoreAddends minus piece others)) e = absurd cc

pub several_misfit : (v : Vocabulary) (sum : PlainSum) → is_single sum ≡ false → list_any (piece_misfits v) (pieces sum) ≡ sum_misfits v sum
several_misfit v (Summed first NoAddends) e = absurd cc
several_misfit v (Summed first (MoreAddends minus piece others)) e = refl
