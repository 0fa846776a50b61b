-- What terms and sums have in their parts, by the lists of them.
use Rattle.std.proofs.Common.{◌≡◌, ℕ, Bool, ◌||◌, List, [], ◌∷◌, length, arith, rules, refl, ap, sym, ◌∙◌}
use Rattle.std.specs.List.{list_any}
use Rattle.std.proofs.lemmas.List.Folds.{list_any-append}
use Rattle.cc_defs.specs.declared.tree.Addend.{Addend}
use Rattle.cc_defs.specs.declared.tree.Piece.{Piece}
use Rattle.cc_defs.specs.declared.tree.SumTree.{SumTree, SumTree-F, roll-SumTree, out-SumTree, roll-out-SumTree, rolls-SumTree', Row_of-Addend, end_of-Addend, more_of-Addend, items-the_row-Addend, items_hidden-the_row-Addend-0}
use Rattle.cc_defs.specs.declared.tree.TermTree.{TermTree, TermTree-F, roll-TermTree, out-TermTree, roll-out-TermTree, rolls-TermTree', Row_of-SumTree, end_of-SumTree, more_of-SumTree, items-the_row-SumTree, items_hidden-the_row-SumTree-1}
use Rattle.cc_defs.specs.Trees.{Applied, MoreSums, Summed, MoreAddends, plain_term, plain_args, plain_sum, plain_addends, plain_piece}
use Rattle.cc_laws.specs.FormulaFaults.{NameTest, mention_has, term_has, sum_has}
use Rattle.cc_laws.specs.Leaves.{argument_mentions, sum_mentions, addend_mentions, piece_mentions, sum_count}
use Rattle.cc_laws.specs.Views.{plain_sums, plain_added, piece_has}
use Rattle.cc_laws.specs.Vocabulary.{Vocabulary, Meaning, meaning}

-- ---- the plain form of a term by its name and its arguments, and of a sum by its pieces

args_are : (n : _) (row : Row_of-SumTree n) → plain_args row ≡ plain_sums (items-the_row-SumTree n row)
args_are _ end_of-SumTree = refl
args_are _ (more_of-SumTree sum rest) = ap (MoreSums (plain_sum sum)) (args_are _ rest)

addends_are : (n : _) (row : Row_of-Addend n) → plain_addends row ≡ plain_added (items-the_row-Addend n row)
addends_are _ end_of-Addend = refl
addends_are _ (more_of-Addend minus piece rest) = ap (MoreAddends minus (plain_piece piece)) (addends_are _ rest)

term_made : (made : TermTree-F Piece Addend SumTree TermTree) → plain_term (roll-TermTree made) ≡ Applied made.name.now (plain_sums made.args.items)
term_made made = rw rolls-TermTree' (search (rules, args_are, items_hidden-the_row-SumTree-1))

sum_made : (made : SumTree-F Piece Addend SumTree TermTree) → plain_sum (roll-SumTree made) ≡ Summed (plain_piece made.first) (plain_added made.rest.items)
sum_made made = rw rolls-SumTree' (search (rules, addends_are, items_hidden-the_row-Addend-0))

pub term_parts : (term : TermTree) → plain_term term ≡ Applied (out-TermTree term).name.now (plain_sums (out-TermTree term).args.items)
term_parts term = ap plain_term (sym (roll-out-TermTree term)) ∙ term_made (out-TermTree term)

pub sum_parts : (sum : SumTree) → plain_sum sum ≡ Summed (plain_piece (out-SumTree sum).first) (plain_added (out-SumTree sum).rest.items)
sum_parts sum = ap plain_sum (sym (roll-out-SumTree sum)) ∙ sum_made (out-SumTree sum)

-- ---- whether there is a name of which the test is true

sum_count_is : (sums : List SumTree) → sum_count (plain_sums sums) ≡ length sums
sum_count_is [] = refl
sum_count_is (sum ∷ sums) = rw (sum_count_is sums) (omega arith)

-- in one of the sums
abbrev pub sums_have : Vocabulary → NameTest → List SumTree → Bool
sums_have v test sums = list_any (λ sum. sum_has v test (plain_sum sum)) sums

-- in one of the addends
abbrev pub addends_have : Vocabulary → NameTest → List Addend → Bool
addends_have v test addends = list_any (λ addend. piece_has v test (plain_piece addend.piece)) addends

sums_have_is : (v : Vocabulary) (test : NameTest) (sums : List SumTree) → list_any (mention_has v test) (argument_mentions (plain_sums sums)) ≡ sums_have v test sums
sums_have_is v test [] = refl
sums_have_is v test (sum ∷ sums) =
    list_any-append (mention_has v test) (sum_mentions (plain_sum sum)) (argument_mentions (plain_sums sums)) ∙ ap (λ others. sum_has v test (plain_sum sum) || others) (sums_have_is v test sums)

addends_have_is : (v : Vocabulary) (test : NameTest) (addends : List Addend) → list_any (mention_has v test) (addend_mentions (plain_added addends)) ≡ addends_have v test addends
addends_have_is v test [] = refl
addends_have_is v test (addend ∷ addends) =
    list_any-append (mention_has v test) (piece_mentions (plain_piece addend.piece)) (addend_mentions (plain_added addends))
    ∙ ap (λ others. piece_has v test (plain_piece addend.piece) || others) (addends_have_is v test addends)

-- a term has what its name has or one of its arguments
term_has_is : (v : Vocabulary) (test : NameTest) (term : TermTree)
    → term_has v test (plain_term term) ≡ (test (meaning v (out-TermTree term).name.now) (length (out-TermTree term).args.items) || sums_have v test (out-TermTree term).args.items)
term_has_is v test term =
    let name = (out-TermTree term).name.now in
    let items = (out-TermTree term).args.items in
    ap (term_has v test) (term_parts term)
    ∙ ap (λ (count : ℕ). test (meaning v name) count || list_any (mention_has v test) (argument_mentions (plain_sums items))) (sum_count_is items)
    ∙ ap (λ (others : Bool). test (meaning v name) (length items) || others) (sums_have_is v test items)

-- by what is known of its name
pub has_by : (v : Vocabulary) (test : NameTest) (term : TermTree) (means : Meaning) (count : ℕ) (holds : Bool) → means ≡ meaning v (out-TermTree term).name.now → count ≡ length (out-TermTree term).args.items → test means count ≡ holds
    → term_has v test (plain_term term) ≡ (holds || sums_have v test (out-TermTree term).args.items)
has_by v test term means count holds e f h =
    let same : test means count ≡ test (meaning v (out-TermTree term).name.now) (length (out-TermTree term).args.items) = ap (λ (m : Meaning). test m count) e ∙ ap (test (meaning v (out-TermTree term).name.now)) f in
    term_has_is v test term ∙ ap (λ (b : Bool). b || sums_have v test (out-TermTree term).args.items) (sym same ∙ h)

-- a sum has what its first piece has or one of the others
sum_has_is : (v : Vocabulary) (test : NameTest) (sum : SumTree)
    → sum_has v test (plain_sum sum) ≡ (piece_has v test (plain_piece (out-SumTree sum).first) || addends_have v test (out-SumTree sum).rest.items)
sum_has_is v test sum =
    let first = plain_piece (out-SumTree sum).first in
    let items = (out-SumTree sum).rest.items in
    ap (sum_has v test) (sum_parts sum)
    ∙ list_any-append (mention_has v test) (piece_mentions first) (addend_mentions (plain_added items))
    ∙ ap (λ (others : Bool). piece_has v test first || others) (addends_have_is v test items)

-- by what is known of its first piece
pub sum_has_by : (v : Vocabulary) (test : NameTest) (sum : SumTree) (holds : Bool) → piece_has v test (plain_piece (out-SumTree sum).first) ≡ holds
    → sum_has v test (plain_sum sum) ≡ (holds || addends_have v test (out-SumTree sum).rest.items)
sum_has_by v test sum holds e = sum_has_is v test sum ∙ ap (λ (b : Bool). b || addends_have v test (out-SumTree sum).rest.items) e
