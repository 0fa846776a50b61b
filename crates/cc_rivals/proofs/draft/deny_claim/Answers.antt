use Rattle.std.proofs.Common.{Option, ap, option_map}
use Rattle.cc_arena.specs.declared.ground_laws.GroundCondition.{GroundCondition}
use Rattle.cc_defs.specs.Terms.{Ground}
use Rattle.cc_rivals.specs.Making.{placed_condition, term_at}
use Rattle.cc_rivals.specs.Putting.{put_claim}
use Rattle.cc_rivals.proofs.Folding.{puts_nothing}
use Rattle.cc_rivals.proofs.draft.deny_claim.Goals as goal

pub returns-in-None : goal.returns-in-None
returns-in-None c =
    let f : GroundCondition → Ground = λ condition. term_at (placed_condition c.args.stride c.args.horizon condition) in
    puts_nothing c.args.draft.now (λ sizes made. put_claim sizes made (option_map f c.args.claim)) (λ sizes made. ap (λ (o : Option GroundCondition). put_claim sizes made (option_map f o)) c.in-None.is)
