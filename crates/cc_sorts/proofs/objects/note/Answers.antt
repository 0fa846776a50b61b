use Rattle.std.proofs.Common.{◌∙◌, sym}
use Rattle.std.proofs.lemmas.Result.{on_ok_weaker}
use Rattle.cc_sorts.proofs.Placing.{kept_at, noted_at}
use Rattle.cc_sorts.proofs.objects.note.Goals as goal

pub returns-clause-kept : goal.returns-clause-kept
returns-clause-kept c =
    kept_at c.put_indexed.result c.args.numbers.now c.args.places.now.entries c.put_indexed.new.map.entries c.in-Some.number c.args.object c.find_number.result c.requires.found c.find_number.ensures
    (sym c.is_some.ensures ∙ c.if-is_some.false) (on_ok_weaker c.put_indexed.result (λ updates. updates.0) c.put_indexed.ensures.updates) c.put_indexed.ensures.unchanged

pub returns-clause-noted : goal.returns-clause-noted
returns-clause-noted c =
    noted_at c.put_indexed.result c.args.numbers.now c.args.places.now.entries c.put_indexed.new.map.entries c.in-Some.number c.args.object c.find_number.result c.requires.found c.find_number.ensures
    (sym c.is_some.ensures ∙ c.if-is_some.false) (on_ok_weaker c.put_indexed.result (λ updates. updates.0) c.put_indexed.ensures.updates) c.args.number c.in-Some.is c.requires.last
