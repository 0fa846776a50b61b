use Rattle.cc_whynot.proofs.Whole.{made}
use Rattle.cc_whynot.proofs.theorems.parts_make_histories.Goals as goal

pub returns : goal.returns
returns c = made (record {
  sizes = c.positions_have_sizes.ensures;
  complete = c.models_meet_completion.ensures;
  paths = c.models_are_paths.ensures;
  heads_name = c.heads_name_atoms.ensures;
  rules = c.sourced_are_rules.ensures;
})
