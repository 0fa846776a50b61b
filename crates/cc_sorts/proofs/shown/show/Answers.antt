use Rattle.std.proofs.Common.{◌∙◌, sym, ap}
use Rattle.cc_sorts.specs.Numbers.{has}
use Rattle.cc_sorts.proofs.Spaces.{put_there, put_new}
use Rattle.cc_sorts.proofs.shown.show.Goals as goal

pub returns-then-is_shown-clause-shown : goal.returns-then-is_shown-clause-shown
returns-then-is_shown-clause-shown c = put_there c.args.object c.args.list.now.items (ap (has c.args.object) (sym c.deref.ensures.value) ∙ sym c.is_shown.ensures ∙ c.if-is_shown.true)

pub returns-clause-shown : goal.returns-clause-shown
returns-clause-shown c = c.in_ok-push.ensures.items ∙ put_new c.args.object c.args.list.now.items (ap (has c.args.object) (sym c.deref.ensures.value) ∙ sym c.is_shown.ensures ∙ c.if-is_shown.false)
