use Rattle.cc_text.specs.Views.{token_view, token_views}
use Rattle.cc_syntax.proofs.Places.{quoted-known}
use Rattle.cc_syntax.proofs.tokens.quoted.Goals as goal

pub between_quotes-requires : goal.between_quotes-requires
between_quotes-requires c = quoted-known (token_views c.args.tokens.now) c.args.at (token_view c.in-Some.token) _ c.requires c.in-Some.ensures c.in-Quoted.is
