use Rattle.cc_tell.proofs.GivenSteps.{step_again, step_done}
use Rattle.cc_list.proofs.DescribedNames.{names_of}
use Rattle.cc_list.proofs.searching.tell_next.Goals as goal

pub returns-in_err-tell_by-clause-told : goal.returns-in_err-tell_by-clause-told
returns-in_err-tell_by-clause-told g c = λ d counts before is keeps.
    step_again _ _ _ c.tell_by.result c.in_err-tell_by.field-0.0 c.from_residual.result (c.tell_by.ensures.told d counts before (names_of c.args.described.now d is) keeps) c.in_err-tell_by.was c.from_residual.ensures.1

pub returns-clause-told : goal.returns-clause-told
returns-clause-told g c = λ d counts before is keeps. step_done _ _ _ c.tell_by.result c.in_ok-tell_by.field-0 _ (c.tell_by.ensures.told d counts before (names_of c.args.described.now d is) keeps) c.in_ok-tell_by.was
