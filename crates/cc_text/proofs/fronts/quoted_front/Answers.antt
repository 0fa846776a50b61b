use Rattle.std.proofs.Common.{◌≡◌, arith}
use Rattle.cc_text.proofs.Words.{quoted_closed, quoted_open}
use Rattle.cc_text.proofs.fronts.quoted_front.Goals as goal
use Rattle.cc_text.proofs.fronts.quoted_front.Goals.{else-run-gt0-via-then-run-gt0+then-run-bytes+else-bytes-run-eq39, else-run-gt0-via-then-run-gt0+else-run-bytes, else-run-gt0-via-else-run-gt0}

pub returns-then-bytes-run-eq39 : goal.returns-then-bytes-run-eq39
returns-then-bytes-run-eq39 c =
    quoted_closed c.args.bytes.now c.run_of_quoted-run.result c.run_of_quoted-run.ensures c.if-run-gt0.true c.if-run-bytes.true c.if-bytes-run-eq39.true

pub returns : goal.returns
returns c = quoted_open c.args.bytes.now c.run_of_quoted-run.result c.run_of_quoted-run.ensures (λ positive within quote. elim c.else-run-gt0.branch [
  | else-run-gt0-via-then-run-gt0+then-run-bytes+else-bytes-run-eq39 w ↦ w.if-bytes-run-eq39.false quote
  | else-run-gt0-via-then-run-gt0+else-run-bytes w ↦ let f = w.if-run-bytes.false in omega arith
  | else-run-gt0-via-else-run-gt0 w ↦ let f = w.if-run-gt0.false in omega arith
])
