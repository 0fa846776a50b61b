use Rattle.std.proofs.Common.{◌∙◌, sym}
use Rattle.std.proofs.lemmas.Bool.{false≢true}
use Rattle.cc_silent.proofs.RowTexts.{no_row_text}
use Rattle.cc_silent.proofs.general.row_of.Goals as goal

pub returns-in-None : goal.returns-in-None
returns-in-None c = no_row_text c.args.text.now (λ feed. false≢true (sym c.if-is_line_feed.false ∙ c.is_line_feed.ensures.1 feed)) (rw c.in-None.is at c.in_ok-row.ensures)
