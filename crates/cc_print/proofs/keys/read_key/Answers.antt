use Rattle.std.proofs.Common.{sym, ◌∙◌}
use Rattle.cc_print.proofs.KeyTexts.{no_colon, no_horizon, no_row, key_is}
use Rattle.cc_print.proofs.keys.read_key.Goals as goal

pub returns-in_default : goal.returns-in_default
returns-in_default c = no_colon c.args.text.now c.split_once.result c.split_once.ensures.cases c.in_default.is

pub returns-in_default-read_number : goal.returns-in_default-read_number
returns-in_default-read_number c =
    no_horizon c.args.text.now c.split_once.result (c.in-Some.horizon, c.in-Some.row) c.split_once.ensures.cases c.in-Some.is (sym c.read_number.ensures ∙ c.in_default-read_number.is)

pub returns-in-Some-2 : goal.returns-in-Some-2
returns-in-Some-2 c =
    key_is c.args.text.now c.split_once.result (c.in-Some.horizon, c.in-Some.row) c.split_once.ensures.cases c.in-Some.is
    (record { horizon = c.in-Some-read_number.horizon; row = c.in-Some-2.row })
    (sym c.read_number.ensures ∙ c.in-Some-read_number.is) (sym c.in_ok-row.ensures ∙ c.in-Some-2.is)

pub returns-in-None : goal.returns-in-None
returns-in-None c =
    no_row c.args.text.now c.split_once.result (c.in-Some.horizon, c.in-Some.row) c.split_once.ensures.cases c.in-Some.is (sym c.in_ok-row.ensures ∙ c.in-None.is)
