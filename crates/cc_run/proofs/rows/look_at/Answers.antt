use Rattle.cc_run.proofs.WhyTold.{exit_grounding, exit_row, exit_rules}
use Rattle.cc_list.proofs.Named.{signature_of}
use Rattle.cc_run.proofs.rows.look_at.Goals as goal

pub returns-in_err-laws-clause-refused : goal.returns-in_err-laws-clause-refused
returns-in_err-laws-clause-refused c = λ d of.
    exit_grounding d c.args.text.now c.in_err-laws.field-0.0 c.from_residual.result c.from_residual.ensures.1 (c.in_err-laws.ensures.refused d of)

pub returns-in_err-key-clause-refused : goal.returns-in_err-key-clause-refused
returns-in_err-key-clause-refused c = λ d of.
    exit_row d c.args.text.now c.in_err-key.field-0.0 c.from_residual-in_err-key.result c.from_residual-in_err-key.ensures.1 (c.in_ok-laws.ensures.unrefused d of)
    (c.in_err-key.ensures.refused d (signature_of c.args.described.now d of))

pub returns-in_err-is_path-clause-refused : goal.returns-in_err-is_path-clause-refused
returns-in_err-is_path-clause-refused c = λ d of.
    exit_rules d c.args.text.now c.in_ok-key.key c.in_err-is_path.field-0.0 c.from_residual-in_err-is_path.result c.from_residual-in_err-is_path.ensures.1
    (c.in_ok-laws.ensures.unrefused d of) (c.in_ok-key.ensures.named d (signature_of c.args.described.now d of))
    (c.in_err-is_path.ensures.refused d (c.in_ok-laws.ensures.of d of))

pub returns-clause-named : goal.returns-clause-named
returns-clause-named c = λ d of.
    let laws = c.in_ok-laws.ensures.of d of in
    record {
      unrefused = c.in_ok-laws.ensures.unrefused d of;
      laws_are = laws;
      named = c.in_ok-key.ensures.named d (signature_of c.args.described.now d of);
      rules = c.in_ok-is_path.ensures.unrefused d laws;
      path = c.in_ok-is_path.ensures.is d laws;
    }

pub returns-clause-laws : goal.returns-clause-laws
returns-clause-laws c = c.in_ok-laws.ensures.fit

pub row_is_path-requires-clause-laws : goal.row_is_path-requires-clause-laws
row_is_path-requires-clause-laws c = c.in_ok-laws.ensures.fit

pub row_is_path-requires-clause-row : goal.row_is_path-requires-clause-row
row_is_path-requires-clause-row c = λ d signature. let named = c.in_ok-key.ensures.named d signature in named.row
