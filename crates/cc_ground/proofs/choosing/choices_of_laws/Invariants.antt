use Rattle.std.proofs.Common.{◌≡◌, ◌≤◌, ◌+◌, drop, map, min}
use Rattle.cc_defs.specs.Resolved.{plain_base_law}
use Rattle.cc_ground.specs.Bindings.{no_bindings}
use Rattle.cc_ground.specs.Choices.{laws_choices}
use Rattle.cc_ground.specs.Views.{universe_of}
use Rattle.cc_ground.proofs.choosing.choices_of_laws.Given as goal

abbrev pub invariant-loop-law : goal.invariant-loop-law
invariant-loop-law l =
    let u = universe_of l.table l.sig in
    record {
      few : l.count ≤ 16000001;
      env : l.env ≡ no_bindings;
      rest : min (l.count + laws_choices u (map plain_base_law (drop l.law-index l.laws))) 16000001 ≡ min (laws_choices u (map plain_base_law l.laws)) 16000001;
    }
