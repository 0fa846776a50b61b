use Rattle.std.proofs.Common.{◌≡◌, get_or, sym, subst}
use Rattle.cc_defs.specs.Clauses.{Literal}
use Rattle.cc_trail.proofs.Ranking.{two_kept, two_best, two_better}
use Rattle.cc_trail.proofs.watches.best_with.Goals as goal

pub returns-then-best-other : goal.returns-then-best-other
returns-then-best-other c =
    two_best c.args.clause.now c.args.index c.rank_of-other.result.lit c.args.best.first.lit c.args.best.second.lit c.requires.clause c.requires.within
    (subst (λ (l : Literal). l ≡ get_or c.args.clause.now c.args.index l) (sym c.rank_of-other.ensures) c.index-clause-index.is) c.requires.two

pub returns-then-best-other-2 : goal.returns-then-best-other-2
returns-then-best-other-2 c =
    two_better c.args.clause.now c.args.index c.rank_of-other.result.lit c.args.best.first.lit c.args.best.second.lit c.requires.clause c.requires.within
    (subst (λ (l : Literal). l ≡ get_or c.args.clause.now c.args.index l) (sym c.rank_of-other.ensures) c.index-clause-index.is) c.requires.two

pub returns-else-best-other-2 : goal.returns-else-best-other-2
returns-else-best-other-2 c =
    two_kept c.args.clause.now c.args.index c.rank_of-other.result.lit c.args.best.first.lit c.args.best.second.lit c.requires.clause c.requires.within
    (subst (λ (l : Literal). l ≡ get_or c.args.clause.now c.args.index l) (sym c.rank_of-other.ensures) c.index-clause-index.is) c.requires.two
