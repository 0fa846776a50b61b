use Rattle.std.proofs.Common.{◌∙◌, ap, map, sym, Some, subst}
use Rattle.cc_arena.specs.GroundViews.{plain_ground_query}
use Rattle.cc_defs.specs.Refusals.{IsRefusedBy}
use Rattle.cc_defs.specs.Resolved.{plain_query}
use Rattle.cc_run.specs.Sures.{claimed_named}
use Rattle.cc_list.specs.Tasks.{query_named}
use Rattle.cc_words.specs.Views.{plain_text}
use Rattle.cc_run.proofs.Claims.{none_claimed}
use Rattle.cc_run.proofs.WideClaims.{bare, bare_is, framed_unclaimed, laws_fault, query_fault, refusal_framed, stands_framed, wide_claim_fault, wide_unrefused}
use Rattle.cc_run.proofs.wide.prepare_wide.Goals as goal

pub returns-in_err-laws-clause-refused : goal.returns-in_err-laws-clause-refused
returns-in_err-laws-clause-refused c = λ w of.
    laws_fault w (map plain_query c.args.said.now.described.queries) (plain_text c.args.label) c.in_err-laws.field-0.0 c.from_residual.result c.from_residual.ensures.1
    (c.in_err-laws.ensures.refused w of)

pub returns-in_err-query-clause-refused : goal.returns-in_err-query-clause-refused
returns-in_err-query-clause-refused c = λ w of.
    let queries = map plain_query c.args.said.now.described.queries in
    let label = plain_text c.args.label in
    query_fault w queries label c.in_err-query.field-0.0 c.from_residual-in_err-query.result c.from_residual-in_err-query.ensures.1 (c.in_ok-laws.ensures.unrefused w of)
    (subst (λ r. IsRefusedBy r c.in_err-query.field-0.0) (refusal_framed c.args.said.now w of (query_named label queries))
    (c.in_err-query.ensures.refused (bare c.args.said.now w of) (bare_is c.args.said.now w of)))

pub returns-in-Some-clause-refused : goal.returns-in-Some-clause-refused
returns-in-Some-clause-refused c = λ w of.
    let label = plain_text c.args.label in
    let asked = c.in_ok-query.ensures.named (bare c.args.said.now w of) (bare_is c.args.said.now w of) in
    wide_claim_fault w (map plain_query c.args.said.now.described.queries) label asked.query c.in-Some.refusal asked.named_is
    (wide_unrefused w (map plain_query c.args.said.now.described.queries) label asked.query (c.in_ok-laws.ensures.unrefused w of)
    (sym (refusal_framed c.args.said.now w of (Some asked.query)) ∙ asked.unrefused))
    (sym (c.claim_named.ensures ∙ ap (λ queries. claimed_named (query_named label (map plain_query queries))) c.items.ensures) ∙ c.in-Some.is)

pub returns-clause-searchable : goal.returns-clause-searchable
returns-clause-searchable c =
    let label = plain_text c.args.label in
    let (w, of) = c.requires.of in
    let asked = c.in_ok-query.ensures.named (bare c.args.said.now w of) (bare_is c.args.said.now w of) in
    record {
      laws_fit = c.in_ok-laws.ensures.fit;
      ordered = c.in_ok-query.ensures.range.0;
      most = c.in_ok-query.ensures.range.1;
      steps = c.in_ok-query.ensures.steps;
      claim = framed_unclaimed (plain_ground_query c.in_ok-query.query) w asked.query (stands_framed c.args.said.now w of _ asked.query asked.stands)
          (none_claimed _ asked.query asked.named_is
          (sym (c.claim_named.ensures ∙ ap (λ queries. claimed_named (query_named label (map plain_query queries))) c.items.ensures) ∙ c.in-None.is));
    }

pub returns-clause-named : goal.returns-clause-named
returns-clause-named c = λ w of.
    let label = plain_text c.args.label in
    let queries = map plain_query c.args.said.now.described.queries in
    let asked = c.in_ok-query.ensures.named (bare c.args.said.now w of) (bare_is c.args.said.now w of) in (
      asked.query,
      record { laws_are = c.in_ok-laws.ensures.of w of; query_is = stands_framed c.args.said.now w of _ asked.query asked.stands },
      record {
        query = asked.named_is;
        unrefused = wide_unrefused w queries label asked.query (c.in_ok-laws.ensures.unrefused w of) (sym (refusal_framed c.args.said.now w of (Some asked.query)) ∙ asked.unrefused);
        claim = none_claimed _ asked.query asked.named_is
            (sym (c.claim_named.ensures ∙ ap (λ queries. claimed_named (query_named label (map plain_query queries))) c.items.ensures) ∙ c.in-None.is);
      },
    )
