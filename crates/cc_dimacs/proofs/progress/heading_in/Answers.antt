use Rattle.cc_dimacs.specs.CnfTexts.{words_in}
use Rattle.cc_dimacs.proofs.Headings.{no_count, no_variables, none_so}
use Rattle.cc_dimacs.proofs.progress.heading_in.Goals as goal

pub returns-in_err-variables : goal.returns-in_err-variables
returns-in_err-variables c =
    none_so _ _ _ c.from_residual-in_err-variables.ensures
    (no_variables (words_in c.args.line.now) (words_in c.in_ok-name.name.now) (words_in c.in_ok-numbers.numbers.now) c.in_ok-name.ensures c.in_ok-numbers.ensures c.in_err-variables.ensures)

pub returns-in_err-count : goal.returns-in_err-count
returns-in_err-count c =
    none_so _ _ _ c.from_residual-in_err-count.ensures
    (no_count (words_in c.args.line.now) (words_in c.in_ok-name.name.now) (words_in c.in_ok-numbers.numbers.now) c.in_ok-name.ensures c.in_ok-numbers.ensures
    c.in_ok-variables.variables (words_in c.in_ok-variables.second.now) c.in_ok-variables.ensures.1 c.in_err-count.ensures)
