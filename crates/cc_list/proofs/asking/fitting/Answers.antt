use Rattle.cc_arena.specs.GroundViews.{plain_ground_query}
use Rattle.cc_list.proofs.Named.{is_key, no_key_fits, unfit}
use Rattle.cc_list.proofs.asking.fitting.Goals as goal

pub returns-then-fits-clause-is : goal.returns-then-fits-clause-is
returns-then-fits-clause-is c = λ text d q spelled signature stands.
    is_key d q (plain_ground_query c.args.query.now) text c.args.key stands spelled ((c.fits.ensures.described d signature).0 c.if-fits.true)

pub returns-clause-refused : goal.returns-clause-refused
returns-clause-refused c = λ text d q spelled signature stands. (
  no_key_fits c.one_key.ensures d q (plain_ground_query c.args.query.now) text c.args.key stands spelled
      (unfit c.fits.result (c.fits.ensures.described d signature) c.if-fits.false),
  c.at.ensures,
)
