use Rattle.std.proofs.Common.{◌≡◌, ◌∙◌, ◌-◌, ◌<◌, ◌∷◌, ℕ, sym, ap, subst, length, get_or, take, drop, arith}
use Rattle.cc_text.specs.Views.{token_views}
use Rattle.cc_text.proofs.Ends.{ends_at, statement_is, statement_some}
use Rattle.cc_text.proofs.tokens.part.Goals as goal

pub between-requires-clause-ordered : goal.between-requires-clause-ordered
between-requires-clause-ordered c =
    let p = ends_at 0 c.args.ends.now (length c.args.tokens.now) c.args.i c.requires.ordered c.requires.within in
    let below = p.0 in
    omega (arith, c.begin_of.ensures)

pub between-requires-clause-within : goal.between-requires-clause-within
between-requires-clause-within c = (ends_at 0 c.args.ends.now (length c.args.tokens.now) c.args.i c.requires.ordered c.requires.within).1

pub returns-clause-tokens : goal.returns-clause-tokens
returns-clause-tokens c =
    let to = get_or c.args.ends.now c.args.i 0 in
    ap token_views c.between.ensures ∙ ap (λ (from : ℕ). token_views (take (to - from) (drop from c.args.tokens.now))) c.begin_of.ensures
    ∙ statement_is c.args.tokens.now c.args.ends.now c.args.i c.requires.within

pub returns-clause-some : goal.returns-clause-some
returns-clause-some c =
    let to = get_or c.args.ends.now c.args.i 0 in
    let same = c.between.ensures ∙ ap (λ (from : ℕ). take (to - from) (drop from c.args.tokens.now)) c.begin_of.ensures in
    let some = statement_some c.args.tokens.now c.args.ends.now c.args.i c.requires.ordered c.requires.within in
    omega (arith, ap length same)
