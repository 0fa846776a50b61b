use Rattle.std.proofs.Common.{subst, sym}
use Rattle.cc_check.specs.declared.line.Kind.{Kind}
use Rattle.cc_check.specs.Readers.{literals_of, numbers_of}
use Rattle.cc_check.specs.Reading.{IsRead}
use Rattle.cc_check.proofs.line.read_line.Goals as goal

pub returns-in-Some : goal.returns-in-Some
returns-in-Some c = subst (λ (kind : Kind). IsRead c.args.text.now (literals_of c.bare.result.literals) (numbers_of c.bare.result.numbers) kind) (sym c.bare.ensures) (c.in-Some.ensures _ _)
