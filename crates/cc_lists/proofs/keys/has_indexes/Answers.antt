use Rattle.std.proofs.Common.{◌∙◌, ℕ, ◌<◌, sym, refl, subst}
use Rattle.std.proofs.lemmas.Bool.{false≢true}
use Rattle.cc_lists.proofs.Positions.{all_within, one_within, some_constants, too_great, too_long}
use Rattle.cc_lists.proofs.keys.has_indexes.Goals as goal

pub returns-then-row-positions : goal.returns-then-row-positions
returns-then-row-positions c = (
  (λ no. absurd (false≢true no)),
  (λ is. absurd (too_long c.positions_have_sizes.ensures c.args.sig.now c.args.horizon c.args.row.now
      (λ same. c.if-row-positions.true (same ∙ sym c.positions.ensures)) is)),
)

pub returns-then-row-position : goal.returns-then-row-position
returns-then-row-position c = (
  (λ no. absurd (false≢true no)),
  (λ is. absurd (too_great c.positions_have_sizes.ensures c.args.sig.now c.args.horizon c.args.row.now c.loop-position.position c.domain_size.result
      (subst (λ (n : ℕ). c.loop-position.position < n) (c.if-row-positions.false ∙ c.positions.ensures) c.loop-position-test.true)
      c.domain_size.ensures c.if-row-position.true is)),
)

pub loop-position-preserved : goal.loop-position-preserved
loop-position-preserved c = one_within c.positions_have_sizes.ensures c.args.sig.now c.args.horizon c.args.row.now c.loop-position.position c.domain_size.result
    (subst (λ (n : ℕ). c.loop-position.position < n) (c.if-row-positions.false ∙ c.positions.ensures) c.loop-position-test.true)
    c.domain_size.ensures c.if-row-position.false c.loop-position.invariant

pub returns : goal.returns
returns c = (
  (λ _. all_within c.positions_have_sizes.ensures c.args.sig.now c.args.horizon c.args.row.now c.loop-position.position
      (c.if-row-positions.false ∙ c.positions.ensures) c.loop-position-test.false c.loop-position.invariant),
  (λ _. refl),
)

pub domain_size-requires : goal.domain_size-requires
domain_size-requires c = some_constants c.args.sig.now c.args.horizon c.loop-position.position
    (subst (λ (n : ℕ). c.loop-position.position < n) (c.if-row-positions.false ∙ c.positions.ensures) c.loop-position-test.true)
