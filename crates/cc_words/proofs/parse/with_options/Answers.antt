use Rattle.std.proofs.Common.{◌∙◌, List, map, sym, ap, arith}
use Rattle.std.specs.Borrow.{Bor}
use Rattle.std.proofs.lemmas.List.{map_more, take_all}
use Rattle.std.proofs.lemmas.Result.{IfOk-weaker}
use Rattle.clap.specs.Simple.{App, on_top}
use Rattle.clap.specs.Walk.{Rule, Text}
use Rattle.cc_words.specs.Readings.{bare_command, option_rule}
use Rattle.cc_words.proofs.parse.with_options.Goals as goal

-- the command with these rules
abbrev taking : List Rule → App
taking rules = on_top (λ shape. record shape { rules = rules }) bare_command

abbrev named : Bor Text → Rule
named name = option_rule name.now

pub loop-name-preserved : goal.loop-name-preserved
loop-name-preserved c = IfOk-weaker c.with_option-command.result _ _
    (λ command is. is ∙ ap taking (sym (map_more named c.args.names.now c.loop-name.name-index _ (omega (arith, c.loop-name-test.true)))))
    (c.with_option-command.ensures _ c.loop-name.invariant)

pub returns : goal.returns
returns c = IfOk-weaker c.loop-name.command _ _
    (λ command is. is ∙ ap (λ (names : List (Bor Text)). taking (map named names)) (take_all c.loop-name.name-index c.args.names.now c.loop-name-test.false))
    c.loop-name.invariant
