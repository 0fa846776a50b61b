use Rattle.std.proofs.Common.{refl}
use Rattle.cc_form.specs.Places.{position_sizes}
use Rattle.cc_rivals.proofs.Assembling.{claim_there, conditions_there}
use Rattle.cc_rivals.proofs.candidate.meets_query.Goals as goal

pub meets_conditions-requires-clause-fit : goal.meets_conditions-requires-clause-fit
meets_conditions-requires-clause-fit c =
    let sizes = position_sizes c.args.sig.now c.args.horizon in (
      sizes,
      c.requires.row,
      conditions_there c.args.sig.now c.args.horizon c.requires.horizon c.stride-stride.result c.stride-stride.ensures.value c.stride-stride.ensures.bound sizes refl
          c.args.query.now.conditions c.items.result.now c.items.ensures c.requires.query.conditions,
    )

pub denies_claim-requires-clause-fits : goal.denies_claim-requires-clause-fits
denies_claim-requires-clause-fits c =
    let sizes = position_sizes c.args.sig.now c.args.horizon in (
      sizes,
      c.requires.row,
      claim_there c.args.sig.now c.args.horizon c.requires.horizon c.stride-stride.result c.stride-stride.ensures.value c.stride-stride.ensures.bound sizes refl c.args.query.now.claim c.requires.query.claim,
    )
