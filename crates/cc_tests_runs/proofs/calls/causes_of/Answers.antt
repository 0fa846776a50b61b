use Rattle.cc_list.proofs.Described.{description_is}
use Rattle.cc_list.specs.Tasks.{description_in}
use Rattle.cc_tests_runs.proofs.calls.causes_of.Goals as goal

pub causes_over-requires-clause-of : goal.causes_over-requires-clause-of
causes_over-requires-clause-of c =
    let says = c.requires.says in
    let of = description_is says.0 c.args.described.now says.2 in
    (description_in says.0, c.in_ok-laws.ensures.of (description_in says.0) of)
