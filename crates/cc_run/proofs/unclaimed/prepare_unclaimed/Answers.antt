use Rattle.std.proofs.Common.{◌∙◌, ap, map, sym}
use Rattle.cc_defs.specs.Resolved.{plain_query}
use Rattle.cc_run.specs.Sures.{claimed_named}
use Rattle.cc_list.specs.Tasks.{query_named}
use Rattle.cc_words.specs.Views.{plain_text}
use Rattle.cc_run.proofs.Exported.{handed_on}
use Rattle.cc_run.proofs.Claims.{claim_fault, ground_unclaimed, none_claimed, unkeyed_fault}
use Rattle.cc_run.proofs.unclaimed.prepare_unclaimed.Goals as goal

pub returns-in_err-prepared-clause-refused : goal.returns-in_err-prepared-clause-refused
returns-in_err-prepared-clause-refused c = λ d of.
    handed_on _ c.in_err-prepared.field-0.0 c.from_residual.result c.from_residual.ensures.1
    (unkeyed_fault d (map plain_query c.args.described.now.queries) (plain_text c.args.label) c.in_err-prepared.field-0.0 (c.in_err-prepared.ensures.refused d of))

pub returns-in-Some-clause-refused : goal.returns-in-Some-clause-refused
returns-in-Some-clause-refused c = λ d of.
    let label = plain_text c.args.label in
    let named = c.in_ok-prepared.ensures.named d of in
    claim_fault d (map plain_query c.args.described.now.queries) label named.0 c.in-Some.refusal named.2.query named.2.unrefused
    (sym (c.claim_named.ensures ∙ ap (λ queries. claimed_named (query_named label (map plain_query queries))) c.items.ensures) ∙ c.in-Some.is)

pub returns-clause-searchable : goal.returns-clause-searchable
returns-clause-searchable c =
    let searchable = c.in_ok-prepared.ensures.searchable in
    record { laws_fit = searchable.laws_fit; ordered = searchable.ordered; most = searchable.most; steps = searchable.steps; key_fits = tt }

pub returns-clause-claim : goal.returns-clause-claim
returns-clause-claim c =
    let label = plain_text c.args.label in
    let of = c.requires.of in
    let named = c.in_ok-prepared.ensures.named of.0 of.1 in
    ground_unclaimed c.in_ok-prepared.prepared.query of.0 named.0 named.1.query_is
    (none_claimed _ named.0 named.2.query (sym (c.claim_named.ensures ∙ ap (λ queries. claimed_named (query_named label (map plain_query queries))) c.items.ensures) ∙ c.in-None.is))

pub returns-clause-named : goal.returns-clause-named
returns-clause-named c = λ d of.
    let label = plain_text c.args.label in
    let named = c.in_ok-prepared.ensures.named d of in (
      named.0,
      named.1,
      record {
        query = named.2.query;
        unrefused = named.2.unrefused;
        claim = none_claimed _ named.0 named.2.query (sym (c.claim_named.ensures ∙ ap (λ queries. claimed_named (query_named label (map plain_query queries))) c.items.ensures) ∙ c.in-None.is);
      },
    )
