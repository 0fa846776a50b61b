use Rattle.std.proofs.Common.{◌≡◌, IfOk, map, take}
use Rattle.clap.specs.Simple.{app_of, on_top}
use Rattle.cc_words.specs.Readings.{bare_command, option_rule}
use Rattle.cc_words.proofs.parse.with_options.Given as goal

abbrev pub invariant-loop-name : goal.invariant-loop-name
invariant-loop-name l = IfOk l.command (λ command. app_of command ≡
    on_top (λ shape. record shape { rules = map (λ name. option_rule name.now) (take l.name-index l.names) }) bare_command)
