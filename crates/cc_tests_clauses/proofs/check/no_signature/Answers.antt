use Rattle.cc_tests_clauses.proofs.Nothing.{no_constants}
use Rattle.cc_tests_clauses.proofs.check.no_signature.Goals as goal

pub of-requires : goal.of-requires
of-requires c =
    no_constants c.new.result.items c.new-2.result.items c.new-3.result.items c.new.ensures.items c.new-2.ensures.items c.new-3.ensures.items
