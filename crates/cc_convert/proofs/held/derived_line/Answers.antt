use Rattle.std.proofs.Common.{ap, sym, ◌∙◌, List}
use Rattle.cc_defs.specs.declared.log.LogLine.TheVariants as lines
use Rattle.cc_defs.specs.Clauses.{Literal}
use Rattle.cc_check.specs.Readers.{literals_of, numbers_of}
use Rattle.cc_check.proofs.Judged.{linked}
use Rattle.cc_convert.proofs.held.derived_line.Goals as goal

pub returns : goal.returns
returns c =
    ap (λ (ls : List Literal). lines.Derived ls c.in_ok-chain.chain) c.in_ok-clause.ensures
    ∙ ap (lines.Derived (literals_of c.args.line.now.literals)) (c.in_ok-chain.ensures ∙ c.of.ensures)
    ∙ sym (linked c.args.version c.args.own (literals_of c.args.line.now.literals) (numbers_of c.args.line.now.numbers))
