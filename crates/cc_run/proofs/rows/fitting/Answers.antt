use Rattle.std.proofs.Common.{subst, ◌≤◌}
use Rattle.cc_defs.specs.Description.{sizes_at}
use Rattle.cc_defs.specs.Rows.{IsRow}
use Rattle.cc_run.proofs.WhyTold.{no_indexes, no_row, too_far}
use Rattle.cc_run.proofs.rows.fitting.Goals as goal

pub returns-then-key-number-clause-refused : goal.returns-then-key-number-clause-refused
returns-then-key-number-clause-refused c = λ text d spelled signature. (
  no_row c.one_key.ensures d text c.args.key spelled (too_far d text c.args.key c.number.result c.number.ensures c.if-key-number.true),
  c.at.ensures,
)

pub returns-clause-refused : goal.returns-clause-refused
returns-clause-refused c = λ text d spelled signature. (
  no_row c.one_key.ensures d text c.args.key spelled
      (no_indexes d text c.args.key c.items.result.now c.is_row.result c.items.ensures (c.is_row.ensures.described d signature) c.if-is_row.false),
  c.at-2.ensures,
)

pub returns-then-is_row-clause-named : goal.returns-then-is_row-clause-named
returns-then-is_row-clause-named c = λ text d spelled signature. record {
  spelled = spelled;
  most = subst (λ n. c.args.key.horizon ≤ n) c.number.ensures c.if-key-number.false;
  row = subst (λ row. IsRow (sizes_at d c.args.key.horizon) row) c.items.ensures ((c.is_row.ensures.described d signature).0 c.if-is_row.true);
}
