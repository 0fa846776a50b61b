use Rattle.std.proofs.Common.{◌∙◌, sym, refl}
use Rattle.cc_rivals.proofs.Indexes.{all_there, never, one_more, too_great, too_long}
use Rattle.cc_rivals.proofs.candidate.has_indexes.Goals as goal

pub returns-then-row-positions : goal.returns-then-row-positions
returns-then-row-positions c =
    never (too_long c.positions_have_sizes.ensures c.args.sig.now c.args.horizon c.args.row.now (λ same. c.if-row-positions.true (same ∙ sym c.positions.ensures)))

pub returns-then-row-position : goal.returns-then-row-position
returns-then-row-position c =
    never (too_great c.positions_have_sizes.ensures c.args.sig.now c.args.horizon c.args.row.now (c.if-row-positions.false ∙ c.positions.ensures) c.loop-position.position c.domain_size.result
    c.loop-position-test.true c.domain_size.ensures c.loop-position.invariant c.if-row-position.true)

pub loop-position-preserved : goal.loop-position-preserved
loop-position-preserved c =
    one_more c.positions_have_sizes.ensures c.args.sig.now c.args.horizon c.args.row.now (c.if-row-positions.false ∙ c.positions.ensures) c.loop-position.position c.domain_size.result
    c.loop-position-test.true c.domain_size.ensures c.loop-position.invariant c.if-row-position.false

pub returns : goal.returns
returns c = (
  (λ _. all_there c.positions_have_sizes.ensures c.args.sig.now c.args.horizon c.args.row.now (c.if-row-positions.false ∙ c.positions.ensures) c.loop-position.position c.loop-position-test.false c.loop-position.invariant),
  (λ _. refl),
)
