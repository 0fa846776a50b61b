use Rattle.cc_convert.proofs.Reading.{entry_holdable, entry_says, there}
use Rattle.cc_check.specs.Readers.{literals_of, numbers_of}
use Rattle.cc_convert.proofs.said.said_entry.Goals as goal

pub line_of-requires : goal.line_of-requires
line_of-requires c =
    let (line, rest, sayable, is) = c.requires in
    entry_holdable c.args.own line c.args.bytes.now rest sayable is (literals_of c.in-Some-read_entry.line.literals) (numbers_of c.in-Some-read_entry.line.numbers) c.in-Some-read_entry.line.kind
    c.in-Some-read_entry.rest.now c.in_default.ensures c.in-Some-read_entry.ensures

pub unreachable-requires : goal.unreachable-requires
unreachable-requires c =
    let (line, rest, sayable, is) = c.requires in
    c.in-None.ensures _ rest (there c.args.own line c.args.bytes.now rest sayable is)

pub returns : goal.returns
returns c = λ line rest sayable is.
    entry_says c.args.own line c.args.bytes.now rest sayable is (literals_of c.in-Some-read_entry.line.literals) (numbers_of c.in-Some-read_entry.line.numbers) c.in-Some-read_entry.line.kind
    c.in_ok-said-in-Some-read_entry.said c.in-Some-read_entry.rest.now c.in-Some-read_entry.ensures c.in_ok-said-in-Some-read_entry.ensures
