use Rattle.std.proofs.Common.{subst, sym}
use Rattle.cc_check.specs.declared.line.Kind.{Kind}
use Rattle.cc_check.specs.Reading.{IsEntryRead}
use Rattle.cc_check.specs.Readers.{literals_of, numbers_of}
use Rattle.cc_log.proofs.Signed.{front}
use Rattle.cc_check.proofs.EntryRead.{read_behind, no_other}
use Rattle.cc_check.proofs.entry.read_entry.Goals as goal

pub returns-then-kind-eq3 : goal.returns-then-kind-eq3
returns-then-kind-eq3 c =
    read_behind 3 c.args.bytes.now _ c.derived_in.result (front c.args.bytes.now 3 c.in-len1-up.len_at_least c.if-kind-eq3.true) c.derived_in.ensures

pub returns-then-kind-eq4 : goal.returns-then-kind-eq4
returns-then-kind-eq4 c =
    read_behind 4 c.args.bytes.now _ c.block_in.result (front c.args.bytes.now 4 c.in-len1-up.len_at_least c.if-kind-eq4.true) c.block_in.ensures

pub returns-in-Some : goal.returns-in-Some
returns-in-Some c =
    subst (λ (kind : Kind). IsEntryRead c.args.bytes.now (literals_of c.bare.result.literals) (numbers_of c.bare.result.numbers) kind c.in-Some.rest.now) (sym c.bare.ensures) (c.in-Some.ensures _ _)

pub returns-in-None : goal.returns-in-None
returns-in-None c = no_other c.args.bytes.now c.if-kind-eq3.false c.if-kind-eq4.false c.in-None.ensures.0 c.in-None.ensures.1
