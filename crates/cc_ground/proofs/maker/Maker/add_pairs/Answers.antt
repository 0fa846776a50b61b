use Rattle.std.proofs.Common.{map}
use Rattle.cc_defs.specs.GroundLaws.{pair_law}
use Rattle.cc_defs.specs.Environments.{pairs_of}
use Rattle.cc_ground.proofs.Making.{first_pairs, made_lacks, made_more}
use Rattle.cc_ground.proofs.Putting.{lacks_so}
use Rattle.cc_ground.proofs.maker.Maker.add_pairs.Goals as goal

pub returns-in_err-add_pairs_with-clause-full : goal.returns-in_err-add_pairs_with-clause-full
returns-in_err-add_pairs_with-clause-full c =
    let halt = c.in_err-add_pairs_with.field-0.0 in
    lacks_so _ _ halt c.from_residual.result c.from_residual.ensures.1
    (made_lacks _ (map (pair_law c.args.base) (pairs_of c.in-Some.others.now)) halt c.loop-one.invariant
    (first_pairs c.args.base c.in-Some.one.now c.in-Some.others.now c.loop-one.left.now c.in-Some.ensures.cases.0) c.in_err-add_pairs_with.ensures.full)

pub loop-one-preserved : goal.loop-one-preserved
loop-one-preserved c =
    made_more c.loop-one.invariant (first_pairs c.args.base c.in-Some.one.now c.in-Some.others.now c.loop-one.left.now c.in-Some.ensures.cases.0) c.in_ok-add_pairs_with.ensures.made
