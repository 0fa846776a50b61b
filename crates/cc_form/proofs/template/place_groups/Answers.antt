use Rattle.cc_form.proofs.Copying.{three_given}
use Rattle.cc_form.proofs.template.place_groups.Goals as goal

pub returns : goal.returns
returns c = three_given c.place-3.result c.args.store.now.kept c.place.new.store.kept c.place-2.new.store.kept _ _ _ _ c.in_ok-place.ensures c.in_ok-place-2.ensures c.place-3.ensures
