-- Arguments beside their sorts, as far as there are both.
use Rattle.std.proofs.Common.{◌≡◌, ℕ, ◌+◌, ◌<◌, ◌≤◌, Bool, false, ◌||◌, List, [], ◌∷◌, length, drop, get_or, refl, ap, sym, ◌∙◌}
use Rattle.std.specs.List.{list_any}
use Rattle.std.proofs.lemmas.List.{at_drop_more, at_drop_all}
use Rattle.cc_defs.specs.declared.tree.Addend.{Addend}
use Rattle.cc_defs.specs.declared.tree.SumTree.{SumTree, out-SumTree}
use Rattle.cc_defs.specs.declared.tree.TermTree.{TermTree, out-TermTree}
use Rattle.cc_defs.specs.Trees.{NoSums, PlainPiece, PlainSum, plain_piece, plain_sum, plain_term}
use Rattle.cc_laws.specs.FormulaFaults.{argument_misfits, some_argument_misfits, term_meaning, arguments_misfit, term_misfits}
use Rattle.cc_laws.specs.Leaves.{term_name, pieces, added_pieces}
use Rattle.cc_laws.specs.Views.{plain_sums, plain_added}
use Rattle.cc_laws.specs.Vocabulary.{Vocabulary, Meaning, meaning}
use Rattle.cc_laws.proofs.Mentions.{term_parts, sum_parts}
use Rattle.cc_laws.proofs.TermRows.{next_item}

pub means_name : (v : Vocabulary) (term : TermTree) (means : Meaning) → means ≡ meaning v (out-TermTree term).name.now → means ≡ term_meaning v (plain_term term)
means_name v term means e = e ∙ ap (meaning v) (sym (ap term_name (term_parts term)))

pub misfits_by_parts : (v : Vocabulary) (term : TermTree) (means : Meaning) (args : List SumTree) → means ≡ term_meaning v (plain_term term) → args ≡ (out-TermTree term).args.items → arguments_misfit v means (plain_sums args) ≡ term_misfits v (plain_term term)
misfits_by_parts v term means args e f =
    ap (λ (m : Meaning). arguments_misfit v m (plain_sums args)) (e ∙ ap (term_meaning v) (term_parts term))
    ∙ ap (λ (items : List SumTree). arguments_misfit v (meaning v (out-TermTree term).name.now) (plain_sums items)) f
    ∙ sym (ap (term_misfits v) (term_parts term))

-- the pieces of a sum have what its first piece has or one of the others
abbrev pub some_addend : (PlainPiece → Bool) → List Addend → Bool
some_addend test addends = list_any (λ addend. test (plain_piece addend.piece)) addends

addends_have : (test : PlainPiece → Bool) (addends : List Addend) → list_any test (added_pieces (plain_added addends)) ≡ some_addend test addends
addends_have test [] = refl
addends_have test (addend ∷ addends) = ap (λ (others : Bool). test (plain_piece addend.piece) || others) (addends_have test addends)

pieces_have : (test : PlainPiece → Bool) (sum : SumTree) → list_any test (pieces (plain_sum sum)) ≡ (test (plain_piece (out-SumTree sum).first) || some_addend test (out-SumTree sum).rest.items)
pieces_have test sum =
    ap (λ (plain : PlainSum). list_any test (pieces plain)) (sum_parts sum)
    ∙ ap (λ (others : Bool). test (plain_piece (out-SumTree sum).first) || others) (addends_have test (out-SumTree sum).rest.items)

-- by what is known of its first piece
pub pieces_by : (test : PlainPiece → Bool) (sum : SumTree) (holds : Bool) → test (plain_piece (out-SumTree sum).first) ≡ holds → list_any test (pieces (plain_sum sum)) ≡ (holds || some_addend test (out-SumTree sum).rest.items)
pieces_by test sum holds e = pieces_have test sum ∙ ap (λ (b : Bool). b || some_addend test (out-SumTree sum).rest.items) e

-- from this place on
abbrev pub misfits_from : Vocabulary → List ℕ → List SumTree → ℕ → Bool
misfits_from v sorts args place = some_argument_misfits v (drop place sorts) (plain_sums (drop place args))

pub misfits_here : (v : Vocabulary) (sorts : List ℕ) (args : List SumTree) (place : ℕ) (argument : SumTree) (test : Bool) → place < length sorts → place < length args → argument ≡ get_or args place argument →
    test ≡ argument_misfits v (get_or sorts place 0) (plain_sum argument) →
    misfits_from v sorts args place ≡ (test || misfits_from v sorts args (place + 1))
misfits_here v sorts args place argument test in_sorts in_args is f =
    at_drop_more (λ (l : List ℕ). some_argument_misfits v l (plain_sums (drop place args))) sorts place 0 in_sorts
    ∙ next_item (λ (l : List SumTree). some_argument_misfits v (get_or sorts place 0 ∷ drop (place + 1) sorts) (plain_sums l)) args place argument in_args is
    ∙ ap (λ (b : Bool). b || misfits_from v sorts args (place + 1)) (sym f)

none_misfits : (v : Vocabulary) (sorts : List ℕ) → some_argument_misfits v sorts NoSums ≡ false
none_misfits v [] = refl
none_misfits v (sort ∷ sorts) = refl

pub no_argument : (v : Vocabulary) (sorts : List ℕ) (args : List SumTree) (place : ℕ) → length args ≤ place → misfits_from v sorts args place ≡ false
no_argument v sorts args place past =
    at_drop_all (λ (l : List SumTree). some_argument_misfits v (drop place sorts) (plain_sums l)) args place past ∙ none_misfits v (drop place sorts)

pub no_sort : (v : Vocabulary) (sorts : List ℕ) (args : List SumTree) (place : ℕ) → length sorts ≤ place → misfits_from v sorts args place ≡ false
no_sort v sorts args place past = at_drop_all (λ (l : List ℕ). some_argument_misfits v l (plain_sums (drop place args))) sorts place past
