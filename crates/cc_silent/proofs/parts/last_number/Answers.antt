use Rattle.std.proofs.Common.{◌∙◌, sym}
use Rattle.std.proofs.lemmas.Bool.{false≢true}
use Rattle.cc_silent.proofs.SureHeadings.{no_feed}
use Rattle.cc_silent.proofs.parts.last_number.Goals as goal

pub returns : goal.returns
returns c = no_feed c.args.text.now c.in-Some.rest.now c.in-Some.number c.in-Some.ensures (λ same. false≢true (sym c.if-is_line_feed.false ∙ c.is_line_feed.ensures.1 same))
