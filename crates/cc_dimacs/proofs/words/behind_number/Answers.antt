use Rattle.std.proofs.Common.{◌∙◌, sym}
use Rattle.cc_dimacs.specs.CnfTexts.{words_in}
use Rattle.cc_dimacs.proofs.Headings.{is_number, no_number, none_so}
use Rattle.cc_dimacs.proofs.words.behind_number.Goals as goal

pub returns-in_err-number : goal.returns-in_err-number
returns-in_err-number c =
    none_so _ _ _ c.from_residual-in_err-number.ensures
    (no_number (words_in c.args.line.now) (words_in c.in_ok-word.rest.now) c.in_ok-word.word.now c.in_ok-word.ensures.0 (sym c.number_in.ensures ∙ c.in_err-number.was))

pub returns : goal.returns
returns c = is_number (words_in c.args.line.now) (words_in c.in_ok-word.rest.now) c.in_ok-word.word.now c.in_ok-number.number c.in_ok-word.ensures.0 (sym c.number_in.ensures ∙ c.in_ok-number.was)
