use Rattle.std.proofs.Common.{◌≡◌, ◌-◌, suc, length, drop}
use Rattle.cc_syntax.specs.Formulas.{stack, Wants, run_from}
use Rattle.cc_syntax.specs.Turns.{plain_turn}
use Rattle.cc_syntax.specs.Views.{seen}
use Rattle.cc_syntax.proofs.formulas.run.Given as goal

abbrev pub invariant-loop : goal.invariant-loop
invariant-loop l =
    run_from (suc (length (drop l.at (seen l.tokens)))) (stack l.initial.frames.items, Wants (drop l.at (seen l.tokens)))
    ≡ run_from (l.turns - l.counter) (stack l.frames.items, plain_turn l.tokens l.turn)
