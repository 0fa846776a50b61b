use Rattle.cc_check.specs.Readers.{literals_of, numbers_of}
use Rattle.cc_check.proofs.FirstTexts.{heading_cut, other_cut, unread_cut}
use Rattle.cc_check.proofs.sections.cut_entry.Goals as goal

pub returns-in-Some : goal.returns-in-Some
returns-in-Some c = heading_cut c.args.bytes.now c.in-Some.heading c.in-Some.rest.now c.in-Some.ensures

pub returns-in-Some-read_entry : goal.returns-in-Some-read_entry
returns-in-Some-read_entry c =
    other_cut c.args.bytes.now (literals_of c.in-Some-read_entry.field-0-0.literals) (numbers_of c.in-Some-read_entry.field-0-0.numbers)
    c.in-Some-read_entry.field-0-0.kind c.in-Some-read_entry.rest.now c.in_default.ensures c.in-Some-read_entry.ensures

pub returns-in-None : goal.returns-in-None
returns-in-None c = unread_cut c.args.bytes.now c.in-None.ensures c.requires
