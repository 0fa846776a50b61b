use Rattle.std.proofs.Common.{◌≡◌, ◌+◌, ◌≤◌, ◌∙◌, ◌++◌, ◌∷◌, [], ap, sym, subst, length, arith, List}
use Rattle.std.proofs.lemmas.List.{append-nil, map-append}
use Rattle.cc_defs.specs.Tokens.{TokenView, IsCut, StopsAt}
use Rattle.cc_text.specs.Views.{token_view, token_views}
use Rattle.cc_text.proofs.Stepping.{ReadSoFar, Finds, read_more, shorter}
use Rattle.cc_text.proofs.tokens.tokens_of.Goals as goal

pub returns-in-End-clause-read : goal.returns-in-End-clause-read
returns-in-End-clause-read c =
    let i = c.loop-tokens.invariant in
    let views = token_views c.loop-tokens.tokens.items in
    let few = i.few in
    (subst (IsCut 1 c.args.bytes.now) (append-nil views) (i.cuts [] c.in-End.ensures), i.short, omega arith)

pub returns-in-Stops-clause-refused : goal.returns-in-Stops-clause-refused
returns-in-Stops-clause-refused c =
    let i = c.loop-tokens.invariant in
    (token_views c.loop-tokens.tokens.items ++ [], i.stops [] c.in-Stops.refusal c.in-Stops.ensures)

pub loop-tokens-preserved : goal.loop-tokens-preserved
loop-tokens-preserved c =
    let s = c.in-Goes.ensures in
    let found : Finds c.loop-tokens.line c.loop-tokens.rest.now (token_view c.in-Goes.token) c.in-Goes.count =
    record { gap = s.0; rest = s.1; positive = s.2; within = s.3; skipped = s.4; is_token = s.5; short = s.6; line_is = s.7 } in
    let views = token_views c.loop-tokens.tokens.items in
    let pushed : token_views c.push.new.self.items ≡ views ++ token_view c.in-Goes.token ∷ [] =
    ap token_views c.in_ok-push-in-Goes.ensures.items ∙ map-append token_view c.loop-tokens.tokens.items (c.in-Goes.token ∷ []) in
    subst (λ (l : List TokenView). ReadSoFar c.args.file c.args.bytes.now l c.in-Goes.token.line c.behind-rest.result.now) (sym pushed)
    (read_more c.args.file c.args.bytes.now views c.loop-tokens.line c.loop-tokens.rest.now (token_view c.in-Goes.token) c.in-Goes.count c.behind-rest.result.now
    c.loop-tokens.invariant found c.behind-rest.ensures)

pub loop-tokens-smaller : goal.loop-tokens-smaller
loop-tokens-smaller c = let s = c.in-Goes.ensures in shorter c.loop-tokens.rest.now c.behind-rest.result.now c.in-Goes.count s.2 s.3 c.behind-rest.ensures
