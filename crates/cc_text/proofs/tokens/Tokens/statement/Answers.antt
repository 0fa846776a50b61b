use Rattle.std.proofs.Common.{◌≡◌, ◌∙◌, ℕ, List, [], ap, subst, sym, length, get_or, arith}
use Rattle.cc_defs.specs.Tokens.{TokenView, AreTokens}
use Rattle.cc_defs.specs.declared.token.Token.{Token}
use Rattle.cc_text.specs.Views.{token_views, cut_at}
use Rattle.cc_text.proofs.Ends.{cut_length}
use Rattle.cc_text.proofs.Statements.{statement_are}
use Rattle.cc_text.proofs.tokens.Tokens.statement.Goals as goal

pub part-requires-clause-within : goal.part-requires-clause-within
part-requires-clause-within c =
    omega (arith, c.requires, ap length c.self.view_is, cut_length 0 c.self.inside.ends.items (token_views c.self.inside.tokens.items), ap length c.deref-2.ensures.value)

pub returns-clause-tokens : goal.returns-clause-tokens
returns-clause-tokens c =
    c.part.ensures.tokens ∙ ap (λ (ends : List ℕ). get_or (cut_at 0 ends (token_views c.deref.result.now)) c.args.i []) c.deref-2.ensures.value
    ∙ ap (λ (tokens : List Token). get_or (cut_at 0 c.self.inside.ends.items (token_views tokens)) c.args.i []) c.deref.ensures.value
    ∙ ap (λ (cut : List (List TokenView)). get_or cut c.args.i []) c.self.view_is

pub returns-clause-are : goal.returns-clause-are
returns-clause-are c = λ text read. subst AreTokens (sym (returns-clause-tokens c)) (statement_are text c.args.self.now c.args.i read)
