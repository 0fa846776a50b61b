use Rattle.std.proofs.Common.{◌∙◌, ap, sym}
use Rattle.cc_forever.specs.Forevers.{ForeverView}
use Rattle.cc_forever.proofs.Giving.{open_gives}
use Rattle.cc_forever.proofs.forever.Forever.leave_open.Goals as goal

pub returns-clause-gives : goal.returns-clause-gives
returns-clause-gives c =
    let example = sym (ap (λ (s : ForeverView). s.example) c.self.view_is) ∙ sym c.take.ensures.value ∙ c.in-Some.is in
    open_gives c.args.self.now c.requires.over c.requires.past c.in-Some.example example c.self.inside.failed (ap (λ (s : ForeverView). s.failed) c.self.view_is)
    _ (λ i. record (c.self.view_is i) { example = c.take.ensures.after i })
