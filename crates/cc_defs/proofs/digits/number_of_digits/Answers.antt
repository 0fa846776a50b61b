use Rattle.cc_defs.proofs.Numbers.{digits-parse, no_err, read_ok}
use Rattle.cc_defs.proofs.digits.number_of_digits.Goals as goal

pub unreachable-requires : goal.unreachable-requires
unreachable-requires c = no_err c.parse.result _ _ c.in-Err.is (digits-parse c.args.digits.now _ c.parse.ensures.value.0 c.requires.digits c.requires.few)

pub returns : goal.returns
returns c = read_ok c.parse.result _ _ c.in-Ok.is (digits-parse c.args.digits.now _ c.parse.ensures.value.0 c.requires.digits c.requires.few)
