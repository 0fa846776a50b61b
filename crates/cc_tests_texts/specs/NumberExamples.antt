-- Small texts with numbers whose meaning is known beforehand: they show what the definitions of numbers, sums and comparisons say.
use Rattle.std.specs.Prelude.{◌≡◌, ℕ, ◌==◌, if◌then◌else◌, true, false, List, [], ◌∷◌, ◌++◌, Option, Some, None, codes}
use Rattle.cc_defs.specs.declared.law.Range.TheVariants as ranges
use Rattle.cc_defs.specs.declared.signature.Const.{Const}
use Rattle.cc_defs.specs.declared.signature.Kind.TheVariants as kinds
use Rattle.cc_defs.specs.declared.signature.LawKind.TheVariants as law_kinds
use Rattle.cc_defs.specs.declared.token.Mark.TheVariants as marks
use Rattle.cc_defs.specs.DeclarationFaults.{declaration_fault, object_count}
use Rattle.cc_defs.specs.Declarations.{Declaration, part_declarations, members, numbers, objects}
use Rattle.cc_defs.specs.Environments.{environments}
use Rattle.cc_defs.specs.Grammar.{Word, Number, Sign, formula, obj_item}
use Rattle.cc_defs.specs.Judged.{choices_of}
use Rattle.cc_defs.specs.Nodes.{term_of}
use Rattle.cc_defs.specs.Resolved as resolved
use Rattle.cc_defs.specs.Resolved.{Formula, Law, NoTerms, MoreTerms, Term, Truth, terms_of}
use Rattle.cc_defs.specs.Satisfaction.{giving, satisfied}
use Rattle.cc_defs.specs.Terms as terms
use Rattle.cc_defs.specs.Terms.{all_of, any_of}
use Rattle.cc_defs.specs.Trees as trees
use Rattle.cc_defs.specs.Trees.{Sorts, Objects, Names, Chain, Numbers}
use Rattle.cc_defs.specs.Universe.{Universe}

-- ---- tables

abbrev pub sorts_named : List (List ℕ) → List Declaration
sorts_named names = part_declarations 0 1 (Sorts (Names names ∷ []))

abbrev pub numbers_of : (low high : ℕ) → List ℕ → List Declaration
numbers_of low high sort = part_declarations 0 2 (Objects (record { members = Numbers low high ∷ []; sort = sort } ∷ []))

-- `:- sorts a; b. :- objects 3, 1 :: a; 1, 3 :: b.`
abbrev pub turned : List Declaration
turned = sorts_named (codes "a" ∷ codes "b" ∷ []) ++ part_declarations 0 2 (Objects (
    record { members = Numbers 3 3 ∷ Numbers 1 1 ∷ []; sort = codes "a" } ∷ record { members = Numbers 1 1 ∷ Numbers 3 3 ∷ []; sort = codes "b" } ∷ []))

-- `:- sorts t >> a; t >> b. :- objects 3 :: a; 1, 3 :: b.`
abbrev pub below_one : List Declaration
below_one = part_declarations 0 1 (Sorts (Chain (codes "t" ∷ codes "a" ∷ []) ∷ Chain (codes "t" ∷ codes "b" ∷ []) ∷ []))
    ++ part_declarations 0 2 (Objects (
    record { members = Numbers 3 3 ∷ []; sort = codes "a" } ∷ record { members = Numbers 1 1 ∷ Numbers 3 3 ∷ []; sort = codes "b" } ∷ []))

-- A number is one object however often it is put; each sort has its numbers in the order in which they are put. What is put counts.
abbrev pub NumbersAreObjects : Type 0
NumbersAreObjects =
    (numbers turned ≡ None ∷ None ∷ Some 3 ∷ Some 1 ∷ [])
    × (members turned (codes "a") ≡ 2 ∷ 3 ∷ []) × (members turned (codes "b") ≡ 3 ∷ 2 ∷ []) × (object_count turned ≡ 4)
    × (objects turned ≡ (codes "false", codes "boolean") ∷ (codes "true", codes "boolean") ∷ (codes "3", codes "a") ∷ (codes "1", codes "a") ∷ [])
    × (members below_one (codes "t") ≡ 2 ∷ 3 ∷ []) × (members below_one (codes "a") ≡ 2 ∷ []) × (members below_one (codes "b") ≡ 3 ∷ 2 ∷ [])

-- Ranges that meet in one sort are 4, and none where the sorts differ; a range that is turned round is 7, and 5 of an unknown sort.
abbrev pub RangesAreRefused : Type 0
RangesAreRefused =
    (declaration_fault (sorts_named (codes "n" ∷ []) ++ numbers_of 0 2 (codes "n")) (numbers_of 2 5 (codes "n")) ≡ Some 4)
    × (declaration_fault (sorts_named (codes "n" ∷ codes "m" ∷ []) ++ numbers_of 0 2 (codes "n")) (numbers_of 2 5 (codes "m")) ≡ None)
    × (declaration_fault (sorts_named (codes "n" ∷ []) ++ numbers_of 2 2 (codes "n")) (numbers_of 3 1 (codes "n")) ≡ Some 7)
    × (declaration_fault [] (numbers_of 3 1 (codes "n")) ≡ Some 5)
    × (declaration_fault [] (numbers_of 1 1 (codes "n") ++ numbers_of 1 1 (codes "n")) ≡ Some 4)
    × (declaration_fault [] (numbers_of 0 1 (codes "boolean")) ≡ Some 7)

-- ---- counters

-- The numbers 0 to 2 are the objects 2 to 4, and sort 1; c, d and e have them as values, e one for each; `a` is an object of sort 2.
abbrev pub counter : ℕ → List ℕ → Const
counter symbol args = record { symbol = symbol; args = args; kind = kinds.Simple; domain = 2 ∷ 3 ∷ 4 ∷ [] }

abbrev pub counters : Universe
counters = record {
  sorts = (0 ∷ 1 ∷ []) ∷ (2 ∷ 3 ∷ 4 ∷ []) ∷ (5 ∷ []) ∷ [];
  numbers = None ∷ None ∷ Some 0 ∷ Some 1 ∷ Some 2 ∷ None ∷ [];
  symbols = [];
  fluents = counter 0 [] ∷ counter 1 [] ∷ counter 2 (2 ∷ []) ∷ counter 2 (3 ∷ []) ∷ counter 2 (4 ∷ []) ∷ [];
  actions = [];
}

abbrev pub number : ℕ → Term
number n = resolved.Number n

abbrev pub c : Term
c = resolved.Constant 0 NoTerms

abbrev pub d : Term
d = resolved.Constant 1 NoTerms

abbrev pub e : Term → Term
e s = resolved.Constant 2 (MoreTerms s NoTerms)

-- c is 1, d is 2, and e is 0 for each
abbrev pub valuation : ℕ → ℕ
valuation number = if number == 0 then 1 else (if number == 1 then 2 else 0)

abbrev pub IsSo : Formula → Type 0
IsSo formula = satisfied counters valuation (giving []) formula ≡ true

abbrev pub IsNotSo : Formula → Type 0
IsNotSo formula = satisfied counters valuation (giving []) formula ≡ false

-- Sums group to the left, and may be less than 0; a value that is not there, or is no number, makes a formula false.
abbrev pub SumsAreJudged : Type 0
SumsAreJudged =
    IsSo (resolved.Equal (resolved.Minus (resolved.Minus (number 5) (number 2)) (number 1)) (number 2))
    × IsSo (resolved.Less (resolved.Minus (number 1) (number 3)) (number 0))
    × IsSo (resolved.Equal (resolved.Minus (number 1) (number 3)) (resolved.Minus (number 0) (number 2)))
    × IsSo (resolved.Equal (resolved.Plus c (number 1)) d) × IsSo (resolved.Less c d) × IsNotSo (resolved.Less d c)
    × IsSo (resolved.AtMost c (number 1)) × IsNotSo (resolved.AtMost d c)
    × IsNotSo (resolved.Equal c (number 7)) × IsSo (resolved.Not (resolved.Equal c (number 7)))
    × IsNotSo (resolved.Equal (e (number 9)) (e (number 9))) × IsSo (resolved.Equal (e (resolved.Plus (number 1) (number 1))) (number 0))
    × IsNotSo (resolved.Equal (resolved.Object 5) (number 3)) × IsNotSo (resolved.Less (resolved.Object 5) (number 3))
    × IsNotSo (resolved.Equal (resolved.Plus c (number 1)) (resolved.Object 1)) × IsSo (resolved.Equal (resolved.Object 3) (number 1))

-- `inc causes c=X+1 if c=X`: the last X has no instance, since its head is not there.
abbrev pub counting : Law
counting = record {
  ranges = ranges.Sort 1 ∷ [];
  head = resolved.Atom 0 [] (resolved.Plus (resolved.Variable 0) (number 1));
  body = Truth;
  after = Some (resolved.Equal c (resolved.Variable 0));
  test = Truth;
  kind = law_kinds.FluentDynamic;
  file = 0;
  line = 1;
}

abbrev pub CountersStop : Type 0
CountersStop = environments counters counting ≡ (2 ∷ []) ∷ (3 ∷ []) ∷ []

-- ---- ground formulas

abbrev pub atom : ℕ → ℕ → terms.Ground
atom constant value = terms.Atom constant value

abbrev pub both : (first second : ℕ) → terms.Ground
both first second = all_of (atom 0 first ∷ atom 1 second ∷ [])

-- An equation with a number is some of the values under which it is true, in the order of the constants and then of their values; a
-- variable over numbers is no number of the text, and gives one atom.
abbrev pub ComparisonsAreGround : Type 0
ComparisonsAreGround =
    (term_of counters (giving []) (resolved.Equal c (number 1)) ≡ any_of (all_of (atom 0 1 ∷ []) ∷ []))
    × (term_of counters (giving []) (resolved.Equal c (number 7)) ≡ any_of [])
    × (term_of counters (giving (3 ∷ [])) (resolved.Equal c (resolved.Variable 0)) ≡ atom 0 1)
    × (term_of counters (giving []) (resolved.Equal (resolved.Plus c d) (number 2)) ≡ any_of (both 0 2 ∷ both 1 1 ∷ both 2 0 ∷ []))
    × (term_of counters (giving []) (resolved.Less c d) ≡ any_of (both 0 1 ∷ both 0 2 ∷ both 1 2 ∷ []))
    × (term_of counters (giving []) (resolved.Equal (resolved.Plus c c) (number 4)) ≡ any_of (all_of (atom 0 2 ∷ []) ∷ []))
    × (term_of counters (giving []) (resolved.Less (number 1) (number 2)) ≡ terms.Truth)
    × (term_of counters (giving []) (resolved.Equal (e (number 9)) (number 0)) ≡ terms.Falsehood)
    × (term_of counters (giving []) (resolved.Equal (e (number 1)) (resolved.Object 2)) ≡ atom 3 0)

-- The lists that are walked: a factor for each different constant that is there, and none without a constant.
abbrev pub ListsAreCounted : Type 0
ListsAreCounted =
    (choices_of counters (giving []) (resolved.Less c d) ≡ 9) × (choices_of counters (giving []) (resolved.Equal (resolved.Plus c c) (number 4)) ≡ 3)
    × (choices_of counters (giving []) (resolved.Less (number 1) (number 2)) ≡ 0) × (choices_of counters (giving []) (resolved.Equal c d) ≡ 0)
    × (choices_of counters (giving []) (resolved.Equal (e (number 9)) (number 0)) ≡ 1)
    × (choices_of counters (giving []) (resolved.Equal (resolved.Plus (e (number 9)) c) (number 0)) ≡ 3)
    × (choices_of counters (giving []) (resolved.ForAll 0 1 (resolved.Less (resolved.Variable 0) c)) ≡ 9)

-- ---- the grammar

abbrev pub only : trees.PlainPiece → trees.PlainSum
only piece = trees.Summed piece trees.NoAddends

-- `-3<c` denies `3<c`, and `1..2, 4 :: n` has two ranges
abbrev pub SignsAreSpelled : Type 0
SignsAreSpelled =
    formula (trees.Not (trees.Compared trees.IsLess (only (trees.Numeral 3)) (only (trees.Called (trees.Applied (codes "c") trees.NoSums)))))
    (Sign marks.Minus ∷ Number (codes "3") ∷ Sign marks.Less ∷ Word (codes "c") ∷ []) []
    × obj_item (record { members = Numbers 1 2 ∷ Numbers 4 4 ∷ []; sort = codes "n" })
    (Number (codes "1") ∷ Sign marks.DotDot ∷ Number (codes "2") ∷ Sign marks.Comma ∷ Number (codes "4") ∷ Sign marks.DoubleColon ∷ Word (codes "n") ∷ []) []
