use Rattle.std.proofs.Common.{◌++◌, codes, decimal}
use Rattle.cc_defs.specs.Events.{of_horizon}
use Rattle.cc_defs.specs.Texts as texts
use Rattle.cc_ports.specs.declared.desk.To.TheVariants as outputs
use Rattle.cc_tell.proofs.GivenSteps.{cut_one, then_one}
use Rattle.cc_tell_modes.proofs.certain.tell_example.Goals as goal

pub returns-in_err-give_made : goal.returns-in_err-give_made
returns-in_err-give_made g c = λ d is.
    cut_one outputs.Out (of_horizon c.args.horizon (codes "example " ++ decimal c.args.number))
    (texts.history_text d c.args.horizon c.args.row.now ++ texts.key_line c.args.horizon c.args.row.now) _ _
    c.give_made.result c.in_err-give_made.field-0.0 c.from_residual.result (c.give_made.ensures _ c.example_text.ensures) c.in_err-give_made.was c.from_residual.ensures.1

pub returns : goal.returns
returns g c = λ d is.
    then_one outputs.Out (of_horizon c.args.horizon (codes "example " ++ decimal c.args.number))
    (texts.history_text d c.args.horizon c.args.row.now ++ texts.key_line c.args.horizon c.args.row.now) _ _ _
    c.give_made.result c.in_ok-give_made.field-0 c.tell_row.result (c.give_made.ensures _ c.example_text.ensures) c.in_ok-give_made.was (c.tell_row.ensures d is)
