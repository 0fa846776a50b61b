-- What the code of the reader of formulas answers.
use Rattle.std.specs.Prelude.{◌≡◌, ℕ, Bool, true, not, IsTrue, List, [], ◌∷◌, drop, Option, Some, None, Result, Ok, Err}
use Rattle.cc_defs.specs.declared.token.Token.{Token}
use Rattle.cc_defs.specs.Trees.{plain_tree}
use Rattle.cc_syntax.specs.declared.formulas.Turn.{Turn}
use Rattle.cc_syntax.specs.declared.formulas.Turn.TheVariants as turns
use Rattle.cc_syntax.specs.declared.frames.Frame.{Frame}
use Rattle.cc_syntax.specs.declared.stop.Stop.{Stop}
use Rattle.cc_syntax.specs.declared.stop.Stop.TheVariants as stops
use Rattle.cc_syntax.specs.Formulas.{PlainFrame, plain_frame, stack, ends_before, PlainTurn, Wants, Has, Ends, Held, begun, gone_on}
use Rattle.cc_syntax.specs.Views.{seen}

-- whether the innermost frame's operand goes on
abbrev pub goes_on : ℕ → List PlainFrame → Bool
goes_on bound [] = true
goes_on bound (frame ∷ frames) = not (ends_before bound frame)

-- the innermost frame was taken off since its operand ends, or none was since it goes on
abbrev pub Popped : ℕ → List PlainFrame → Option Frame → List PlainFrame → Type 0
Popped bound frames (Some frame) rest = (frames ≡ plain_frame frame ∷ rest) × IsTrue (ends_before bound (plain_frame frame))
Popped bound frames None rest = (frames ≡ rest) × IsTrue (goes_on bound frames)

-- where the reading is, with what is left of the tokens
abbrev pub plain_turn : List Token → Turn → PlainTurn
plain_turn tokens (turns.Wants at) = Wants (drop at (seen tokens))
plain_turn tokens (turns.Has tree at) = Has (plain_tree tree.value) (drop at (seen tokens))
plain_turn tokens (turns.Ends tree at) = Ends (plain_tree tree.value) (drop at (seen tokens))

-- a turn leaves these frames and the place where the reading is, as the definition has it; it answers nothing only where
-- the definition has nothing, or where memory was wanting
abbrev pub Turns : List Token → List Frame → Result Turn Stop → Option Held → Type 0
Turns tokens frames (Ok turn) found = found ≡ Some (stack frames, plain_turn tokens turn)
Turns tokens frames (Err stops.NoTree) found = found ≡ None
Turns tokens frames (Err stops.OutOfMemory) found = Unit {0}

-- the next turn; there is none where the formula ended
abbrev pub turn_of : Held → Option Held
turn_of (frames, Wants tokens) = begun frames tokens
turn_of (frames, Has tree tokens) = gone_on frames tree tokens
turn_of (frames, Ends tree rest) = Some (frames, Ends tree rest)
