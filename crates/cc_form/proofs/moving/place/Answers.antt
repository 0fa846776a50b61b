use Rattle.cc_form.proofs.Copying.{three_given}
use Rattle.cc_form.proofs.moving.place.Goals as goal

pub returns : goal.returns
returns c = three_given c.keep_later-2.result c.args.store.now.kept c.keep_later.new.store.kept c.keep_each.new.store.kept _ _ _ _ c.in_ok-keep_later.ensures c.in_ok-keep_each.ensures c.keep_later-2.ensures
