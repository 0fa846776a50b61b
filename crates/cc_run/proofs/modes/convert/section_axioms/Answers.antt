use Rattle.cc_arena.specs.GroundViews.{plain_ground_query}
use Rattle.cc_run.proofs.Converted.{never_refused, opened_asks}
use Rattle.cc_run.proofs.modes.convert.section_axioms.Goals as goal

pub form_at-requires-clause-query : goal.form_at-requires-clause-query
form_at-requires-clause-query c =
    opened_asks c.args.described.now.sig c.args.prepared.now.laws (plain_ground_query c.args.prepared.now.query) c.args.prepared.now.key c.args.conditions c.args.horizon
    c.requires.searchable c.requires.opened

pub unreachable-requires : goal.unreachable-requires
unreachable-requires c =
    never_refused c.args.described.now.sig c.args.prepared.now.laws (plain_ground_query c.args.prepared.now.query) c.args.prepared.now.key c.args.conditions c.args.horizon
    c.requires.opened _ c.as_ref.ensures.value c.in-Err-Refused.field-0-0
    (λ d q laws stands. rw c.in-Err-Refused.field-0-is at (c.in-Err-Refused.ensures.refused d q laws stands))
