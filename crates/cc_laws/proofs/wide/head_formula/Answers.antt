use Rattle.std.proofs.Common.{◌∙◌, ap, sym}
use Rattle.cc_defs.specs.Resolved.{Terms, plain_term}
use Rattle.cc_defs.specs.Resolved as resolved
use Rattle.cc_laws.specs.Views.{row_terms}
use Rattle.cc_laws.specs.Widening.{head_formula}
use Rattle.cc_laws.proofs.TermLists.{rows_are}
use Rattle.cc_laws.proofs.wide.head_formula.Goals as goal

pub returns-in-Atom : goal.returns-in-Atom
returns-in-Atom c =
    let equation : Terms → resolved.Formula = λ args. resolved.Equal (resolved.Constant c.in-Atom.symbol args) (plain_term c.in-Atom.value) in
    c.equation_of.ensures ∙ ap (λ items. equation (row_terms items)) c.into_items.ensures ∙ ap equation (rows_are c.in-Atom.args)
    ∙ ap (λ head. head_formula (resolved.plain_head head)) (sym c.in-Atom.is)
