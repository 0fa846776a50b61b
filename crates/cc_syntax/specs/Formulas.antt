-- A reader of formulas that holds what is open: signs and brackets that wait for their operand, and operators with
-- their left operand.
use Rattle.std.specs.Prelude.{ℕ, zero, suc, Bool, true, false, nat_le, if◌then◌else◌, List, [], ◌∷◌, length, map, reverse, Option, Some, None}
use Rattle.cc_defs.specs.declared.token.Mark.{Mark}
use Rattle.cc_defs.specs.declared.token.Mark.TheVariants as marks
use Rattle.cc_defs.specs.Trees.{PlainTerm, PlainPiece, Numeral, Called, PlainSum, Summed, PlainAddends, NoAddends, MoreAddends, PlainTree, Comparison, plain_tree}
use Rattle.cc_defs.specs.Trees as trees
use Rattle.cc_defs.specs.Grammar.{Terminal}
use Rattle.cc_syntax.specs.declared.operators.Operator.{Operator}
use Rattle.cc_syntax.specs.declared.frames.Frame.{Frame}
use Rattle.cc_syntax.specs.declared.frames.Frame.TheVariants as frames
use Rattle.cc_syntax.specs.declared.frames.Opening.{Opening}
use Rattle.cc_syntax.specs.declared.frames.Opening.TheVariants as openings
use Rattle.cc_syntax.specs.Readers.{Reader, given, ◌>>=◌, name_at, sign_at, ◌◁◌}
use Rattle.cc_syntax.specs.Terms.{sum_at}
use Rattle.cc_syntax.specs.Operators.{operator_at, strength, left_strength, joined, comparison_at}

pub data PlainFrame : Type 0 where
  Not : PlainFrame
  Paren : PlainFrame
  ForAll : (variable : List ℕ) → PlainFrame
  Exists : (variable : List ℕ) → PlainFrame
  Left : Operator → PlainTree → PlainFrame

abbrev pub plain_opening : Opening → PlainFrame
plain_opening openings.Not = Not
plain_opening openings.Paren = Paren
plain_opening (openings.ForAll variable) = ForAll variable.now
plain_opening (openings.Exists variable) = Exists variable.now

abbrev pub plain_frame : Frame → PlainFrame
plain_frame (frames.Opened opening) = plain_opening opening
plain_frame (frames.Left operator tree) = Left operator (plain_tree tree.value)

-- the frames, the innermost first; the code holds it last
abbrev pub stack : List Frame → List PlainFrame
stack held = reverse (map plain_frame held)

-- the frame with its operand
abbrev pub filled : PlainFrame → PlainTree → PlainTree
filled Not tree = trees.Not tree
filled Paren tree = trees.Paren tree
filled (ForAll variable) tree = trees.ForAll variable tree
filled (Exists variable) tree = trees.Exists variable tree
filled (Left operator left) tree = joined operator left tree

-- whether the frame's operand ends before an operator whose left operand has at most the strength
abbrev pub ends_before : ℕ → PlainFrame → Bool
ends_before bound Not = true
ends_before bound Paren = false
ends_before bound (ForAll variable) = false
ends_before bound (Exists variable) = false
ends_before bound (Left operator left) = nat_le (strength operator) bound

-- the frames that stay, and what the others make of the operand
abbrev pub closed : ℕ → List PlainFrame → PlainTree → List PlainFrame × PlainTree
closed bound [] tree = ([], tree)
closed bound (frame ∷ frames) tree =
    if ends_before bound frame then closed bound frames (filled frame tree) else (frame ∷ frames, tree)

-- the bracket that closes the frame
abbrev pub closing : PlainFrame → Mark
closing Not = marks.RightBracket
closing Paren = marks.RightParen
closing (ForAll variable) = marks.RightBracket
closing (Exists variable) = marks.RightBracket
closing (Left operator left) = marks.RightBracket

-- where the reading is: an operand is wanted, or was read, or the formula was read
pub data PlainTurn : Type 0 where
  Wants : List Terminal → PlainTurn
  Has : PlainTree → List Terminal → PlainTurn
  Ends : PlainTree → List Terminal → PlainTurn

abbrev pub variable_at : (List ℕ → PlainFrame) → Reader PlainFrame
variable_at make tokens = (name_at ◁ sign_at marks.Bar) tokens >>= λ read. Some (make read.0, read.1)

abbrev pub quantifier_at : Reader PlainFrame
quantifier_at tokens =
    sign_at marks.LeftBracket tokens >>= λ rest.
    given (sign_at marks.AllSign rest) (sign_at marks.AnySign rest >>= variable_at Exists) (variable_at ForAll)

abbrev pub bracket_at : Reader PlainFrame
bracket_at tokens = given (sign_at marks.LeftParen tokens) (quantifier_at tokens) (λ rest. Some (Paren, rest))

-- a sign or a bracket before an operand
abbrev pub frame_at : Reader PlainFrame
frame_at tokens = given (sign_at marks.Minus tokens) (bracket_at tokens) (λ rest. Some (Not, rest))

-- whether a sum has pieces behind its first
abbrev pub has_more : PlainAddends → Bool
has_more NoAddends = false
has_more (MoreAddends minus second others) = true

-- the term that a piece is, and that a sum of one piece is
abbrev pub named_of : PlainPiece → Option PlainTerm
named_of (Numeral number) = None
named_of (Called term) = Some term

abbrev pub alone_of : PlainSum → Option PlainTerm
alone_of (Summed first others) = if has_more others then None else named_of first

-- behind the sign of a comparison
abbrev pub side_at : Comparison → PlainSum → Reader PlainTree
side_at comparison left tokens = sum_at tokens >>= λ right. Some (trees.Compared comparison left right.0, right.1)

abbrev pub bare_at : PlainSum → Reader PlainTree
bare_at sum tokens = alone_of sum >>= λ term. Some (trees.Bare term, tokens)

-- two sums with the sign of a comparison between them, or a term alone
unfoldable pub atom_at : Reader PlainTree
atom_at tokens =
    sum_at tokens >>= λ left. given (comparison_at left.1) (bare_at left.0 left.1) (λ sign. side_at sign.0 left.0 sign.1)

-- what is held, and where the reading is
abbrev pub Held : Type 0
Held = List PlainFrame × PlainTurn

unfoldable pub begun : List PlainFrame → List Terminal → Option Held
begun frames tokens =
    given (frame_at tokens) (atom_at tokens >>= λ read. Some (frames, Has read.0 read.1))
    (λ read. Some (read.0 ∷ frames, Wants read.1))

-- the greatest strength of an operand before the operator, or before no operator
abbrev pub bound_of : Option Operator → ℕ
bound_of None = 4
bound_of (Some operator) = left_strength operator

-- no operator is left before the place: it is behind the formula, or at the bracket that closes the innermost frame
abbrev pub shut : List PlainFrame × PlainTree → List Terminal → Option Held
shut ([], tree) tokens = Some ([], Ends tree tokens)
shut (frame ∷ frames, tree) tokens = sign_at (closing frame) tokens >>= λ rest. Some (frames, Has (filled frame tree) rest)

abbrev pub pushed : Operator → List PlainFrame × PlainTree → List Terminal → Held
pushed operator (frames, tree) rest = (Left operator tree ∷ frames, Wants rest)

unfoldable pub gone_on : List PlainFrame → PlainTree → List Terminal → Option Held
gone_on frames tree tokens =
    given (operator_at tokens) (shut (closed 4 frames tree) tokens)
    (λ read. Some (pushed read.0 (closed (left_strength read.0) frames tree) read.1))

-- what is read in at most so many turns
unfoldable pub run_from : ℕ → Held → Option (PlainTree × List Terminal)
run_from n (frames, Ends tree rest) = Some (tree, rest)
run_from zero held = None
run_from (suc n) (frames, Wants tokens) = begun frames tokens >>= run_from n
run_from (suc n) (frames, Has tree tokens) = gone_on frames tree tokens >>= run_from n

abbrev pub formula_at : Reader PlainTree
formula_at tokens = run_from (suc (length tokens)) ([], Wants tokens)
