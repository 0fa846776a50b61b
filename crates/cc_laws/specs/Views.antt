-- How the code's own types are seen, in the words of the definitions.
use Rattle.std.specs.Prelude.{ℕ, Bool, true, false, not, ◌&&◌, ◌||◌, if◌then◌else◌, List, [], ◌∷◌, flat_map, Option, Some, None}
use Rattle.std.specs.List.{list_any}
use Rattle.std.specs.Option.{option_map}
use Rattle.cc_defs.specs.declared.formula.Term as kept_terms
use Rattle.cc_defs.specs.declared.tree.Addend.{Addend}
use Rattle.cc_defs.specs.declared.tree.SumTree.{SumTree}
use Rattle.cc_defs.specs.Resolved.{Formula, plain_formula}
use Rattle.cc_defs.specs.Resolved as resolved
use Rattle.cc_defs.specs.declared.tree.LawTree.{LawTree}
use Rattle.cc_defs.specs.Trees.{Comparison, PlainTerm, PlainSums, NoSums, MoreSums, PlainSum, Summed, PlainPiece, Numeral, Called, PlainAddends, NoAddends, MoreAddends, PlainTree, boxed_tree, plain_law, plain_sum, plain_tree}
use Rattle.cc_defs.specs.Trees as trees
use Rattle.cc_laws.specs.declared.expansion.Source.{Source}
use Rattle.cc_laws.specs.declared.meaning.Meaning.{Meaning as KeptMeaning}
use Rattle.cc_laws.specs.declared.meaning.Meaning.TheVariants as kept_meanings
use Rattle.cc_laws.specs.declared.mention.Property.{Property}
use Rattle.cc_laws.specs.declared.mention.Property.TheVariants as properties
use Rattle.cc_laws.specs.declared.names.Binding.{Binding as KeptBinding}
use Rattle.cc_laws.specs.declared.names.Names.{Names}
use Rattle.cc_laws.specs.declared.resolving.Joint.{Joint}
use Rattle.cc_laws.specs.declared.resolving.Joint.TheVariants as joints
use Rattle.cc_laws.specs.declared.resolving.Bracket.{Bracket}
use Rattle.cc_laws.specs.declared.resolving.Bracket.TheVariants as brackets
use Rattle.cc_laws.specs.declared.values.Persistence.{Persistence as KeptPersistence}
use Rattle.cc_laws.specs.declared.values.Persistence.TheVariants as kept_persistences
use Rattle.cc_laws.specs.declared.values.Frame.{Frame as KeptFrame}
use Rattle.cc_laws.specs.declared.sums.Comparison.{Comparison as KeptComparison}
use Rattle.cc_laws.specs.declared.sums.Comparison.TheVariants as comparisons
use Rattle.cc_laws.specs.declared.walk.Check.{Check}
use Rattle.cc_laws.specs.declared.walk.Check.TheVariants as checks
use Rattle.cc_laws.specs.Expansion.{Caused, Persistence, Exogenous, Inertial, Rigid, Frame, law_frame}
use Rattle.cc_laws.specs.FormulaFaults.{NameTest, mention_has, sum_has, is_unknown_name, is_miscounted, leaf_has, bracket_unknown, leaf_misfits}
use Rattle.cc_laws.specs.FreeVariables.{variable_meant}
use Rattle.cc_laws.specs.Heads.{is_constant_term, is_boolean_term, is_truth_term}
use Rattle.cc_laws.specs.Leaves.{Leaf, leaves, piece_mentions}
use Rattle.cc_laws.specs.Resolving.{Binding}
use Rattle.cc_laws.specs.Shortened.{short_with}
use Rattle.cc_laws.specs.Vocabulary.{Vocabulary, Meaning, Unknown, Nothing, Object, Variable, Constant, meaning, is_constant, is_action_constant, is_fluent_constant, is_determined_constant}

-- ---- lists of terms

abbrev pub plain_sums : List SumTree → PlainSums
plain_sums [] = NoSums
plain_sums (sum ∷ sums) = MoreSums (plain_sum sum) (plain_sums sums)

abbrev pub plain_added : List Addend → PlainAddends
plain_added [] = NoAddends
plain_added (addend ∷ addends) = MoreAddends addend.minus (trees.plain_piece addend.piece) (plain_added addends)

abbrev pub row_terms : List kept_terms.Term → resolved.Terms
row_terms [] = resolved.NoTerms
row_terms (term ∷ terms) = resolved.MoreTerms (resolved.plain_term term) (row_terms terms)

-- ---- names

abbrev pub plain_meaning : KeptMeaning → Meaning
plain_meaning kept_meanings.Unknown = Unknown
plain_meaning kept_meanings.Nothing = Nothing
plain_meaning (kept_meanings.Object number sort) = Object number sort
plain_meaning (kept_meanings.Variable number sort) = Variable number sort
plain_meaning (kept_meanings.Constant number symbol) = Constant number symbol.now

-- what is asked of a name
abbrev pub asks : Property → NameTest
asks properties.Unknown = is_unknown_name
asks properties.Miscounted = is_miscounted
asks properties.Constant = λ means count. is_constant means
asks properties.Action = λ means count. is_action_constant means
asks properties.Fluent = λ means count. is_fluent_constant means
asks properties.Determined = λ means count. is_determined_constant means

-- what is asked of the terms and brackets of a formula
abbrev pub leaf_test : Vocabulary → Check → Leaf → Bool
leaf_test v (checks.Mentions property) = leaf_has v (asks property)
leaf_test v checks.Unknown = λ leaf. leaf_has v is_unknown_name leaf || bracket_unknown v leaf
leaf_test v checks.Misfits = leaf_misfits v

abbrev pub fails : Vocabulary → Check → PlainTree → Bool
fails v check formula = list_any (leaf_test v check) (leaves formula)

-- ---- pieces of sums, and signs between them

abbrev pub comparison_of : KeptComparison → Comparison
comparison_of comparisons.Equal = trees.IsEqual
comparison_of comparisons.Differs = trees.Differs
comparison_of comparisons.Less = trees.IsLess
comparison_of comparisons.AtMost = trees.IsAtMost
comparison_of comparisons.More = trees.IsMore
comparison_of comparisons.AtLeast = trees.IsAtLeast

-- the sign between the sums of a comparison
abbrev pub sign_in : PlainTree → Comparison
sign_in (trees.Compared comparison s t) = comparison
sign_in formula = trees.IsAtLeast

-- whether a sum is one piece
abbrev pub is_single : PlainSum → Bool
is_single (Summed first NoAddends) = true
is_single (Summed first (MoreAddends minus piece others)) = false

-- the term that a piece is
abbrev pub piece_name : PlainPiece → Option PlainTerm
piece_name (Numeral number) = None
piece_name (Called term) = Some term

-- whether a piece has a name of which the test is true
abbrev pub piece_has : Vocabulary → NameTest → PlainPiece → Bool
piece_has v test piece = list_any (mention_has v test) (piece_mentions piece)

-- the variables of a piece, in the order of its text
abbrev pub piece_variables : Vocabulary → PlainPiece → List ℕ
piece_variables v piece = flat_map (λ mention. variable_meant (meaning v mention.name)) (piece_mentions piece)

-- the term, where it is a constant and the sum beside it has none
abbrev pub constant_beside : Vocabulary → Option PlainTerm → PlainSum → Option PlainTerm
constant_beside v None sum = None
constant_beside v (Some c) sum = if is_constant_term v c && not (sum_has v (λ means count. is_constant means) sum) then Some c else None

-- both terms, where the first is a Boolean constant and the other a truth value
abbrev pub truth_beside : Vocabulary → Option PlainTerm → Option PlainTerm → Option (PlainTerm × PlainTerm)
truth_beside v (Some c) (Some value) = if is_boolean_term v c && is_truth_term v value then Some (c, value) else None
truth_beside v (Some c) None = None
truth_beside v None value = None

-- ---- what a formula sees: the code keeps the innermost binding last

abbrev pub plain_binding : KeptBinding → Binding
plain_binding binding = record { variable = binding.variable; number = binding.number }

abbrev pub inside : List Binding → List KeptBinding → List Binding
inside scope [] = scope
inside scope (binding ∷ bindings) = inside (plain_binding binding ∷ scope) bindings

abbrev pub scope_of : Names → List Binding
scope_of names = inside [] names.bindings.items

-- ---- formulas

abbrev pub joined_by : Joint → Formula → Formula → Formula
joined_by joints.Both = resolved.Both
joined_by joints.Either = resolved.Either
joined_by joints.Implies = resolved.Implies
joined_by joints.Same = resolved.Same

-- how the parts of a formula are joined
abbrev pub joint_of : PlainTree → Joint
joint_of (trees.Both f g) = joints.Both
joint_of (trees.Either f g) = joints.Either
joint_of (trees.Implies f g) = joints.Implies
joint_of formula = joints.Same

-- the bracket that a formula begins with
abbrev pub bracket_before : PlainTree → Bracket
bracket_before (trees.ForAll name f) = brackets.ForAll
bracket_before formula = brackets.Exists

abbrev pub bracket_over : Bracket → ℕ → ℕ → Formula → Formula
bracket_over brackets.ForAll = resolved.ForAll
bracket_over brackets.Exists = resolved.Exists

-- ---- the law that a law is short for

abbrev pub plain_caused : LawTree → Bool → Caused
plain_caused law later = short_with later (plain_law law)

-- ---- base laws

abbrev pub persistence_of : KeptPersistence → Persistence
persistence_of kept_persistences.Exogenous = Exogenous
persistence_of kept_persistences.Inertial = Inertial
persistence_of kept_persistences.Rigid = Rigid

abbrev pub frame_of : KeptFrame → Frame
frame_of frame = record {
  ranges = frame.ranges.items;
  test = plain_formula frame.test;
  scope = scope_of frame.names;
  next = frame.names.next;
  file = frame.file;
  line = frame.line;
}

-- what the base laws of a law have in common
abbrev pub frame_from : Vocabulary → Source → Frame
frame_from v source = law_frame source.file v source.line source.variables.now (option_map boxed_tree source.test.now)
