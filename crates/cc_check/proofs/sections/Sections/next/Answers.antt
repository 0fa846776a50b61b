use Rattle.cc_check.proofs.NextSections.{ahead_here, section_next, still_there}
use Rattle.cc_check.proofs.sections.Sections.next.Goals as goal

pub returns-clause-next : goal.returns-clause-next
returns-clause-next c = λ all are.
    section_next c.self.inside.version c.self.inside.line c.in-Some.heading c.in-Some.behind c.inside_of-inside.result.bytes c.inside_of-inside.result.count
    c.inside_of-inside.result.next c.inside_of-inside.ensures all
    (ahead_here c.self.inside.version c.self.inside.line c.in-Some.heading c.in-Some.behind c.inside_of-inside.result.bytes c.inside_of-inside.result.count
    c.args.self.now c.self.inside.next c.self.view_is c.in-Some.is all are)

pub invariant_of-self : goal.invariant_of-self
invariant_of-self c =
    still_there c.self.inside.version c.self.inside.line c.in-Some.heading c.in-Some.behind c.inside_of-inside.result.bytes c.inside_of-inside.result.count c.self.inside.next
    c.inside_of-inside.result.next c.in-Some.is c.inside_of-inside.ensures c.self.invariant.0 c.self.invariant.1
