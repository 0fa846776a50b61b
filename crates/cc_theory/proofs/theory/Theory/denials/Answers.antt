use Rattle.std.proofs.Common.{◌∙◌}
use Rattle.cc_theory.specs.Groups.{sizes_of}
use Rattle.cc_theory.proofs.HeadPlaces.{denials_are}
use Rattle.cc_theory.proofs.theory.Theory.denials.Goals as goal

pub returns : goal.returns
returns c =
    let t = c.args.self.now in
    c.with_head.ensures.numbers ∙ denials_are (sizes_of t.signature) t.horizon t.rules c.with_head.ensures.heads
