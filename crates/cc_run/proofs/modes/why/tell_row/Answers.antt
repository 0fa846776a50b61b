use Rattle.std.proofs.lemmas.Bool.{iff_false}
use Rattle.cc_run.proofs.WhyTold.{tells_none}
use Rattle.cc_run.proofs.modes.why.tell_row.Goals as goal

pub returns : goal.returns
returns g c = λ d text of looked.
    tells_none d c.args.described.now.files c.args.row.now.key _ _ c.tell_none.result (λ path. iff_false looked.path c.if-row.false path) c.tell_none.ensures.told
    c.tell_none.ensures.status

pub tell_history-requires-clause-path : goal.tell_history-requires-clause-path
tell_history-requires-clause-path g c =
    let of = c.requires.of in
    (of.0, of.2, of.3.laws_are, of.3.named.row, of.3.path.0 c.if-row.true)

pub returns-then-row : goal.returns-then-row
returns-then-row g c = λ d text of looked. c.tell_history.ensures d of looked.laws_are (looked.path.0 c.if-row.true)
