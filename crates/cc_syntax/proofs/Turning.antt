-- A turn of the reader of formulas is a step of what defines it.
use Rattle.std.proofs.Common.{◌≡◌, ◌≢◌, ℕ, zero, suc, ◌-◌, ◌<◌, List, Option, Some, None, Err, drop, refl, ap, sym, ◌∙◌, arith}
use Rattle.std.proofs.lemmas.Option.{same_Some}
use Rattle.std.specs.Global.{Box}
use Rattle.cc_defs.specs.declared.token.Token.{Token}
use Rattle.cc_defs.specs.declared.tree.Tree.{Tree}
use Rattle.cc_defs.specs.Grammar.{Terminal}
use Rattle.cc_defs.specs.Trees.{PlainTree, plain_tree}
use Rattle.cc_syntax.specs.declared.formulas.Turn.{Turn}
use Rattle.cc_syntax.specs.declared.formulas.Turn.TheVariants as turns
use Rattle.cc_syntax.specs.Formulas.{PlainFrame, Wants, Has, Ends, Held, run_from}
use Rattle.cc_syntax.specs.declared.frames.Frame.{Frame}
use Rattle.cc_syntax.specs.declared.stop.Stop.{Stop}
use Rattle.cc_syntax.specs.declared.stop.Stop.TheVariants as stops
use Rattle.cc_syntax.specs.Turns.{Turns, plain_turn, turn_of}
use Rattle.cc_syntax.specs.Views.{seen}

-- a formula that ended is read
pub ended : (n : ℕ) (frames : List PlainFrame) (tree : _) (rest : _) → run_from n (frames, Ends tree rest) ≡ Some (tree, rest)
unfolding run_from
ended zero frames tree rest = refl
ended (suc n) frames tree rest = refl

-- a formula that is found to have ended
pub ended-so : {whole : Option (PlainTree × List Terminal)} (tokens : List Token) (n : ℕ) (frames : List PlainFrame) (turn : Turn) (tree : Box Tree) (next : ℕ) →
    whole ≡ run_from n (frames, plain_turn tokens turn) → turn ≡ turns.Ends tree next → whole ≡ Some (plain_tree tree.value, drop next (seen tokens))
ended-so tokens n frames turn tree next so_far is = so_far ∙ ap (λ (t : Turn). run_from n (frames, plain_turn tokens t)) is ∙ ended n frames _ _

-- a turn was made
pub turned-on : (left less : ℕ) (held after : Held) → 0 < left → less ≡ left - 1 → turn_of held ≡ Some after → run_from left held ≡ run_from less after
unfolding run_from
turned-on zero less held after some one_less e = absurd (omega arith)
turned-on (suc n) less (frames, Wants here) after some one_less e = rw e (ap (λ m. run_from m after) (omega arith))
turned-on (suc n) less (frames, Has tree here) after some one_less e = rw e (ap (λ m. run_from m after) (omega arith))
turned-on (suc n) less (frames, Ends tree rest) after some one_less e = sym (ended less frames tree rest) ∙ ap (run_from less) (same_Some _ _ e)

-- no turn can be made
pub turned_out : (left : ℕ) (held : Held) → 0 < left → turn_of held ≡ None → run_from left held ≡ None
unfolding run_from
turned_out zero held some e = absurd (omega arith)
turned_out (suc n) (frames, Wants here) some e = rw e refl
turned_out (suc n) (frames, Has tree here) some e = rw e refl
turned_out (suc n) (frames, Ends tree rest) some e = absurd cc

-- a turn that stops for want of a tree has nothing behind it
pub turns-not : (tokens : List Token) (frames : List Frame) (stop : Stop) (found : Option Held) → Turns tokens frames (Err stop) found → stop ≡ stops.NoTree → found ≡ None
turns-not tokens frames stops.NoTree found turns e = turns
turns-not tokens frames stops.OutOfMemory found turns e = absurd cc

-- no turn is left, and the formula does not end
pub turns-spent : (tokens : List Token) (frames : List PlainFrame) (turn : Turn) (left : ℕ) → left ≡ 0 → ((tree : _) (at : ℕ) → turn ≢ turns.Ends tree at)
    → run_from left (frames, plain_turn tokens turn) ≡ None
unfolding run_from
turns-spent tokens frames turn (suc left) e none = absurd (omega arith)
turns-spent tokens frames (turns.Wants at) zero e none = refl
turns-spent tokens frames (turns.Has tree at) zero e none = refl
turns-spent tokens frames (turns.Ends tree at) zero e none = absurd (none tree at refl)
