use Rattle.std.proofs.Common.{◌∙◌}
use Rattle.cc_trail.proofs.Ranking.{first_ones}
use Rattle.cc_trail.proofs.watches.first_two.Goals as goal

pub returns-then-one-two : goal.returns-then-one-two
returns-then-one-two c =
    (first_ones c.args.clause.now c.rank_of-one.result.lit c.rank_of-two.result.lit c.index-clause-0.result c.index-clause-1.result c.requires.clause c.requires.long
    (c.rank_of-one.ensures ∙ c.index-clause-0.is) (c.rank_of-two.ensures ∙ c.index-clause-1.is)).1

pub returns-else-one-two : goal.returns-else-one-two
returns-else-one-two c =
    (first_ones c.args.clause.now c.rank_of-one.result.lit c.rank_of-two.result.lit c.index-clause-0.result c.index-clause-1.result c.requires.clause c.requires.long
    (c.rank_of-one.ensures ∙ c.index-clause-0.is) (c.rank_of-two.ensures ∙ c.index-clause-1.is)).0
