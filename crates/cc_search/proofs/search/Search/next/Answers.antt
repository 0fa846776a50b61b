use Rattle.cc_search.proofs.Finding.{next_tells}
use Rattle.cc_search.proofs.search.Search.next.Goals as goal

pub returns-clause-tells : goal.returns-clause-tells
returns-clause-tells c = λ axioms count budget section stands.
    next_tells c.step.result c.args.self.now c.step.new.self axioms count budget section c.step.ensures.gives stands
