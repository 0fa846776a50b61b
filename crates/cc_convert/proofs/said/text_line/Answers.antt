use Rattle.std.proofs.Common.{◌∙◌}
use Rattle.cc_log.proofs.Lines.{one_line}
use Rattle.cc_convert.proofs.Reading.{text_holdable, text_result}
use Rattle.cc_check.specs.Readers.{literals_of, numbers_of}
use Rattle.cc_convert.proofs.said.text_line.Goals as goal

pub returns-in-Some : goal.returns-in-Some
returns-in-Some c = λ line is over. c.section_of.ensures ∙ one_line c.args.text.now _ line c.in-Some.ensures is

pub line_of-requires : goal.line_of-requires
line_of-requires c =
    let (line, is, over) = c.requires in
    text_holdable c.args.text.now line is (literals_of c.in-Some-read_line.line.literals) (numbers_of c.in-Some-read_line.line.numbers) c.in-Some-read_line.line.kind c.in_default.ensures
    c.in-Some-read_line.ensures over

pub returns : goal.returns
returns c = λ line is over.
    text_result c.args.text.now line is c.line_of.result (literals_of c.in-Some-read_line.line.literals) (numbers_of c.in-Some-read_line.line.numbers) c.in-Some-read_line.line.kind
    c.in-Some-read_line.ensures c.line_of.ensures
