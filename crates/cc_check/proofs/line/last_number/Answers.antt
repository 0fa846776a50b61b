use Rattle.std.proofs.lemmas.Bool.{false≢true}
use Rattle.cc_log.proofs.Lines.{last_by}
use Rattle.cc_check.proofs.line.last_number.Goals as goal

pub returns-then-not-is_line_feed : goal.returns-then-not-is_line_feed
returns-then-not-is_line_feed c =
    last_by c.args.text.now c.in_ok-number.rest.now c.in_ok-number.number c.in_ok-number.ensures (λ is. false≢true (c.if-not-is_line_feed.ensures.1 is))
