use Rattle.std.proofs.Common.{map}
use Rattle.cc_arena.specs.GroundViews.{plain_ground_query}
use Rattle.cc_defs.specs.Resolved.{plain_query}
use Rattle.cc_words.specs.Views.{plain_text}
use Rattle.cc_list.proofs.Named.{exit_laws, exit_query, exit_key, signature_of, unrefused_as}
use Rattle.cc_list.proofs.asking.prepare.Goals as goal

pub returns-in_err-laws-clause-refused : goal.returns-in_err-laws-clause-refused
returns-in_err-laws-clause-refused c = λ d of.
    exit_laws d (map plain_query c.args.described.now.queries) (plain_text c.args.label) (plain_text c.args.after) c.in_err-laws.field-0.0 c.from_residual.result
    c.from_residual.ensures.1 (c.in_err-laws.ensures.refused d of)

pub returns-in_err-query-clause-refused : goal.returns-in_err-query-clause-refused
returns-in_err-query-clause-refused c = λ d of.
    exit_query d (map plain_query c.args.described.now.queries) (plain_text c.args.label) (plain_text c.args.after) c.in_err-query.field-0.0 c.from_residual-in_err-query.result
    c.from_residual-in_err-query.ensures.1 (c.in_ok-laws.ensures.unrefused d of) (c.in_err-query.ensures.refused d of)

pub returns-in_err-key-clause-refused : goal.returns-in_err-key-clause-refused
returns-in_err-key-clause-refused c = λ d of.
    let asked = c.in_ok-query.ensures.named d of in
    exit_key d (map plain_query c.args.described.now.queries) (plain_text c.args.label) (plain_text c.args.after) (plain_ground_query c.in_ok-query.query)
    c.in_err-key.field-0.0 c.from_residual-in_err-key.result c.from_residual-in_err-key.ensures.1 (c.in_ok-laws.ensures.unrefused d of) asked
    (c.in_err-key.ensures.refused d asked.query (signature_of c.args.described.now d of) asked.stands)

pub returns-clause-named : goal.returns-clause-named
returns-clause-named c = λ d of.
    let asked = c.in_ok-query.ensures.named d of in (
      asked.query,
      record { laws_are = c.in_ok-laws.ensures.of d of; query_is = asked.stands },
      record {
        query = asked.named_is;
        unrefused = unrefused_as d asked.query (c.in_ok-laws.ensures.unrefused d of) asked.unrefused;
        key_is = c.in_ok-key.ensures.is d asked.query (signature_of c.args.described.now d of) asked.stands;
      },
    )

pub returns-clause-searchable : goal.returns-clause-searchable
returns-clause-searchable c =
    let range = c.in_ok-query.ensures.range in
    record { laws_fit = c.in_ok-laws.ensures.fit; ordered = range.0; most = range.1; steps = c.in_ok-query.ensures.steps; key_fits = c.in_ok-key.ensures.fits }
