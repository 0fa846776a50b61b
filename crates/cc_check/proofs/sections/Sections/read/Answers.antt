use Rattle.cc_defs.specs.declared.log.Version.TheVariants.{First, Second}
use Rattle.cc_defs.specs.LogBytes.{binary_header}
use Rattle.cc_defs.specs.LogTexts.{header}
use Rattle.cc_check.proofs.Headers.{at_front, err_behind, no_header, not_at, ok_behind}
use Rattle.cc_check.proofs.sections.Sections.read.Goals as goal

pub returns-in_default-strip_prefix-clause-refused : goal.returns-in_default-strip_prefix-clause-refused
returns-in_default-strip_prefix-clause-refused c =
    no_header c.args.bytes.now c.refused.result c.refused.ensures (not_at binary_header c.args.bytes.now c.in_default.ensures.cases)
    (not_at header c.args.bytes.now c.in_default-strip_prefix.ensures.cases)

pub returns-in-Some-clause-read : goal.returns-in-Some-clause-read
returns-in-Some-clause-read c =
    ok_behind c.args.bytes.now c.in-Some.body.now Second (at_front binary_header c.args.bytes.now c.in-Some.body.now c.in-Some.ensures.cases.0 c.in-Some.ensures.cases.1)
    c.read_behind.result c.read_behind.ensures.read

pub returns-clause-read : goal.returns-clause-read
returns-clause-read c =
    ok_behind c.args.bytes.now c.in-Some-strip_prefix.body.now First (
      not_at binary_header c.args.bytes.now c.in_default.ensures.cases,
      at_front header c.args.bytes.now c.in-Some-strip_prefix.body.now c.in-Some-strip_prefix.ensures.cases.0 c.in-Some-strip_prefix.ensures.cases.1,
    )
    c.read_behind-2.result c.read_behind-2.ensures.read

pub returns-clause-refused : goal.returns-clause-refused
returns-clause-refused c =
    err_behind c.args.bytes.now c.in-Some-strip_prefix.body.now First (
      not_at binary_header c.args.bytes.now c.in_default.ensures.cases,
      at_front header c.args.bytes.now c.in-Some-strip_prefix.body.now c.in-Some-strip_prefix.ensures.cases.0 c.in-Some-strip_prefix.ensures.cases.1,
    )
    c.read_behind-2.result c.read_behind-2.ensures.refused
