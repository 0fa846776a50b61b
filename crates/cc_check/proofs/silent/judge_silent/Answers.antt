use Rattle.std.proofs.lemmas.Bool.{eqb-true, false≢true}
use Rattle.std.proofs.Common.{arith, length, sym}
use Rattle.cc_check.proofs.FirstTexts.{line_text_first, text_shorter}
use Rattle.cc_check.specs.Silent.{PassesNoLimit}
use Rattle.cc_check.proofs.SilentLogs.{err_fault, no_header, ok_verdict, ok_within, wrong_header}
use Rattle.cc_check.proofs.silent.judge_silent.Goals as goal

pub returns-clause-verdict : goal.returns-clause-verdict
returns-clause-verdict g c = λ of is.
    ok_verdict (g.S.Silent.subject of) c.args.bytes.now c.first_line.result.0.now c.first_line.result.1.now c.first_line.ensures ((c.is_header.ensures of is).0 c.if-not-is_header.false) c.judge_behind.result
    (c.judge_behind.ensures.within of is)

pub returns-clause-within : goal.returns-clause-within
returns-clause-within g c = λ of is.
    ok_within (g.S.Silent.subject of) c.args.bytes.now c.first_line.result.0.now c.first_line.result.1.now c.first_line.ensures ((c.is_header.ensures of is).0 c.if-not-is_header.false) c.judge_behind.result
    (c.judge_behind.ensures.within of is)

pub returns-clause-refused : goal.returns-clause-refused
returns-clause-refused g c = λ of is.
    err_fault (g.S.Silent.subject of) c.args.bytes.now c.first_line.result.0.now c.first_line.result.1.now c.first_line.ensures ((c.is_header.ensures of is).0 c.if-not-is_header.false) c.judge_behind.result
    (c.judge_behind.ensures.refused of is)

pub judge_behind-requires : goal.judge_behind-requires
judge_behind-requires g c = let less = text_shorter _ _ _ _ (line_text_first _ _ _ c.first_line.ensures) in omega arith

pub returns-then-is_empty-clause-within : goal.returns-then-is_empty-clause-within
returns-then-is_empty-clause-within g c = λ of is.
    no_header (g.S.Silent.subject of) (PassesNoLimit (g.S.Silent.subject of)) c.args.bytes.now c.refused.result c.refused.ensures (eqb-true (length c.args.bytes.now) 0 (sym c.if-is_empty.ensures))

pub returns-then-not-is_header-clause-within : goal.returns-then-not-is_header-clause-within
returns-then-not-is_header-clause-within g c = λ of is.
    wrong_header (g.S.Silent.subject of) (PassesNoLimit (g.S.Silent.subject of)) c.args.bytes.now c.refused-then-not-is_header.result c.refused-then-not-is_header.ensures c.first_line.result.0.now c.first_line.result.1.now c.first_line.ensures
    (λ same. false≢true ((c.if-not-is_header.ensures of is).1 same))

pub returns-then-is_empty-clause-verdict : goal.returns-then-is_empty-clause-verdict
returns-then-is_empty-clause-verdict g c = λ of is.
    no_header (g.S.Silent.subject of) (λ _. Unit {0}) c.args.bytes.now c.refused.result c.refused.ensures (eqb-true (length c.args.bytes.now) 0 (sym c.if-is_empty.ensures))

pub returns-then-not-is_header-clause-verdict : goal.returns-then-not-is_header-clause-verdict
returns-then-not-is_header-clause-verdict g c = λ of is.
    wrong_header (g.S.Silent.subject of) (λ _. Unit {0}) c.args.bytes.now c.refused-then-not-is_header.result c.refused-then-not-is_header.ensures c.first_line.result.0.now c.first_line.result.1.now c.first_line.ensures
    (λ same. false≢true ((c.if-not-is_header.ensures of is).1 same))
