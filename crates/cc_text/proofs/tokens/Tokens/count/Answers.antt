use Rattle.std.proofs.Common.{◌∙◌, sym, ap, length}
use Rattle.cc_text.specs.Views.{token_views}
use Rattle.cc_text.proofs.Ends.{cut_length}
use Rattle.cc_text.proofs.tokens.Tokens.count.Goals as goal

pub returns : goal.returns
returns c = ap length c.deref-ends.ensures.value ∙ sym (cut_length 0 c.self.inside.ends.items (token_views c.self.inside.tokens.items)) ∙ ap length c.self.view_is
