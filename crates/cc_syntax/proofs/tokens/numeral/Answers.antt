use Rattle.cc_text.specs.Views.{token_view, token_views}
use Rattle.cc_syntax.proofs.Places.{number-known}
use Rattle.cc_syntax.proofs.tokens.numeral.Goals as goal

pub number_of_digits-requires-clause-digits : goal.number_of_digits-requires-clause-digits
number_of_digits-requires-clause-digits c = (number-known (token_views c.args.tokens.now) c.args.at (token_view c.in-Some.token) _ c.requires c.in-Some.ensures c.in-Number.is).0

pub number_of_digits-requires-clause-few : goal.number_of_digits-requires-clause-few
number_of_digits-requires-clause-few c = (number-known (token_views c.args.tokens.now) c.args.at (token_view c.in-Some.token) _ c.requires c.in-Some.ensures c.in-Number.is).1
