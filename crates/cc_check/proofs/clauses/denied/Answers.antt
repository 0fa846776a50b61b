use Rattle.std.proofs.Common.{ap, ◌∙◌, arith}
use Rattle.cc_defs.specs.Clauses.{Literal}
use Rattle.cc_check.proofs.Literals.{atom_within}
use Rattle.cc_check.proofs.clauses.denied.Goals as goal

pub returns-clause-over : goal.returns-clause-over
returns-clause-over c =
    let (size, is, below) = c.requires in
    let within = atom_within c.args.form.now.sizes c.args.position size c.args.value is below in
    let e = ap (λ (l : Literal). l.variable) c.opposite.ensures ∙ ap (λ (l : Literal). l.variable) c.atom.ensures in
    let least = c.variables.ensures.least in
    let value = c.variables.ensures.value in
    omega arith
