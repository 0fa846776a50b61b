use Rattle.std.proofs.Common.{List, length, map, refl, sym, subst}
use Rattle.std.specs.List.{AllByRecursion}
use Rattle.std.proofs.lemmas.Option.{slice_get_read}
use Rattle.cc_defs.specs.declared.law.Query.{Query}
use Rattle.cc_defs.specs.Declarations.{symbols}
use Rattle.cc_defs.specs.Resolved.{plain_query}
use Rattle.cc_laws.specs.Laws.{HasFormulas}
use Rattle.cc_sections.proofs.Items.{one_of}
use Rattle.cc_sections.proofs.case.query_asked.Goals as goal

pub query_of-requires-clause-formulas : goal.query_of-requires-clause-formulas
query_of-requires-clause-formulas c = λ declarations of.
    let found = c.in-Some.ensures.lookup in
    one_of (HasFormulas (symbols declarations)) plain_query c.items.result.now c.args.number c.in-Some.query.now
    (slice_get_read c.items.result.now (length c.items.result.now) c.args.number c.in-Some.query.now refl found.3.0 found.1)
    (subst (λ (l : List Query). AllByRecursion (HasFormulas (symbols declarations)) (map plain_query l)) (sym c.items.ensures) (c.requires.formulas declarations of))
