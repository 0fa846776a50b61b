use Rattle.std.proofs.Common.{◌∙◌}
use Rattle.cc_theory.specs.Groups.{sizes_of}
use Rattle.cc_theory.proofs.HeadPlaces.{causes_are}
use Rattle.cc_theory.proofs.Reading.{atom_place}
use Rattle.cc_theory.proofs.theory.Theory.completion.Goals as goal

pub with_head-requires : goal.with_head-requires
with_head-requires c = atom_place c.args.self.now.signature c.args.self.now.horizon c.args.position c.args.value c.requires

pub returns : goal.returns
returns c =
    let t = c.args.self.now in
    c.with_head.ensures.numbers ∙ causes_are (sizes_of t.signature) t.horizon c.args.position c.args.value (atom_place t.signature t.horizon c.args.position c.args.value c.requires) t.rules c.with_head.ensures.heads
