use Rattle.cc_tests_runs.proofs.calls.causes_over.Goals as goal

pub why-requires-clause-path : goal.why-requires-clause-path
why-requires-clause-path c =
    let of = c.requires.of in
    (of.0, of.1, (c.in_ok-is.ensures of.0 of.1).0 c.if-is.true)
